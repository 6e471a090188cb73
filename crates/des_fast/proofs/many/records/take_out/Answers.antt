-- A block more.
use Rattle.std.proofs.Common.{◌≡◌, ℕ, ◌+◌, List, [], get_or, ap, sym, ◌∙◌, arith, subst}
use Rattle.std.proofs.Math.ListN.{set}
use Rattle.std.proofs.lemmas.List.{length-set, get_or-set_other}
use Rattle.des_fast.specs.RecordStates.{AreCbcDecryptedBelow}
use Rattle.des_fast.proofs.CbcDecryptedRecords.{AreCbcDecryptedBelow-more}
use Rattle.des_fast.proofs.many.records.take_out.Goals as goal

pub answers-preserved : goal.answers-preserved
answers-preserved c =
    let sizes : List ℕ = c.args.sizes.now in
    let from : ℕ = c.args.span.from in
    let k : ℕ = c.answers.k in
    let at : ℕ = c.record_with-record.result.number in
    let vectors : List (List ℕ) = c.answers.vectors in
    let blocks : List (List ℕ) = c.answers.blocks in
    let answers : List (List ℕ) = c.args.answers.now in
    let next : from + k + 1 ≡ from + (k + 1) = omega arith in
    record {
      starts = c.record_with-record.ensures.starts;
      before = omega (arith, c.record_with-record.ensures.starts, c.record_with-record.ensures.there.from);
      in_vectors = length-set vectors at _ ∙ c.answers.invariant.in_vectors;
      in_blocks = length-set blocks (from + k) _ ∙ c.answers.invariant.in_blocks;
      rest = λ m past.
          get_or-set_other blocks (from + k) m c.xored.result [] (λ same. omega arith)
          ∙ c.answers.invariant.rest m (omega arith);
      cbc_decrypted = λ f first q answered are.
          subst (λ (n : ℕ). AreCbcDecryptedBelow f sizes first q (set vectors at (get_or blocks (from + k) []))
          (set blocks (from + k) c.xored.result) n) next
          (subst (λ (block : List ℕ). AreCbcDecryptedBelow f sizes first q
          (set vectors at (get_or blocks (from + k) [])) (set blocks (from + k) block) (from + k + 1))
          (sym c.xored.ensures)
          (AreCbcDecryptedBelow-more f sizes first q vectors blocks at (from + k) (get_or answers k [])
          c.record_with-record.ensures.there (c.answers.invariant.in_vectors ∙ c.requires.vectors)
          (c.answers.invariant.in_blocks ∙ c.requires.whole)
          (answered k (omega arith)
          ∙ ap f (sym (c.answers.invariant.rest (from + k) (omega arith))))
          (c.answers.invariant.cbc_decrypted f first q answered are)));
    }

pub returns-clause-cbc_decrypted : goal.returns-clause-cbc_decrypted
returns-clause-cbc_decrypted c f first q answered are =
    let all : c.answers.k ≡ c.args.span.count = omega (arith, c.answers.auto.k-end) in
    subst (λ (n : ℕ). AreCbcDecryptedBelow f c.args.sizes.now first q c.answers.vectors c.answers.blocks
    (c.args.span.from + n)) all (c.answers.invariant.cbc_decrypted f first q answered are)
