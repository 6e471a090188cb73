-- The blocks before the index are encrypted to some, and those from it on are as they were.
use Rattle.std.proofs.Common.{◌≡◌, ◌≤◌, ◌-◌, ◌*◌, ◌/◌, ℕ, List, length, take, drop}
use Rattle.std.specs.Simd.{first_chunks}
use Rattle.des_columns.specs.EncryptedBytes.{AreEncrypted, joined}
use Rattle.des_columns.specs.Forms.{mode_after}
use Rattle.des_columns.proofs.writing.Writer.encipher.Given as goal

abbrev pub invariant-parts : goal.invariant-parts
invariant-parts g l = record {
  within : l.from ≤ length l.initial.bytes / 8;
  done : (answers : List (List ℕ)) × (l.mode ≡ mode_after l.self.mode answers) × (take (l.from * 8) l.bytes ≡ joined answers)
      × ((key : List ℕ) → g.C.KeyInit.is_made_from l.self.cipher key
      → AreEncrypted l.self.mode (g.C.Relating.relation key)
      (take l.from (first_chunks 8 (length l.initial.bytes / 8) l.initial.bytes)) answers);
  rest : drop (l.from * 8) l.bytes ≡ drop (l.from * 8) l.initial.bytes;
}

abbrev pub decreases-parts : goal.decreases-parts
decreases-parts g l = length l.initial.bytes / 8 - l.from
