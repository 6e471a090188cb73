-- The blocks before the index are out of their chains, and those of the part from it on are as they were.
use Rattle.std.proofs.Common.{◌≡◌, ℕ, ◌+◌, ◌<◌, ◌≤◌, List, [], get_or, length}
use Rattle.des_fast.specs.Records.{start}
use Rattle.des_fast.specs.RecordStates.{AreCbcDecryptedBelow}
use Rattle.des_fast.proofs.many.records.take_out.Given as goal

abbrev pub invariant-answers : goal.invariant-answers
invariant-answers l = record {
  starts : l.record.start ≡ start l.sizes l.record.number;
  before : l.record.start ≤ l.span.from + l.k;
  in_vectors : length l.vectors ≡ length l.initial.vectors;
  in_blocks : length l.blocks ≡ length l.initial.blocks;
  rest : (m : ℕ) → l.span.from + l.k ≤ m → get_or l.blocks m [] ≡ get_or l.initial.blocks m [];
  cbc_decrypted : (decryption : List ℕ → List ℕ) (first q : List (List ℕ))
      → ((k : ℕ) → k < l.span.count
      → get_or l.answers k [] ≡ decryption (get_or l.initial.blocks (l.span.from + k) []))
      → AreCbcDecryptedBelow decryption l.sizes first q l.initial.vectors l.initial.blocks l.span.from
      → AreCbcDecryptedBelow decryption l.sizes first q l.vectors l.blocks (l.span.from + l.k);
}
