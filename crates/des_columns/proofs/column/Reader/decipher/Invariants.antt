-- The blocks before the index are deciphered, and those from it on are as they were.
use Rattle.std.proofs.Common.{◌≡◌, ◌≤◌, ◌-◌, ◌*◌, ◌/◌, length, take, drop, map}
use Rattle.std.specs.Simd.{first_chunks}
use Rattle.des_columns.specs.EncryptedBytes.{joined}
use Rattle.des_columns.specs.Forms.{mode_after, xored}
use Rattle.des_columns.proofs.column.Reader.decipher.Given as goal

abbrev pub invariant-parts : goal.invariant-parts
invariant-parts g l =
    let blocks = first_chunks 8 (length l.initial.bytes / 8) l.initial.bytes in
    record {
      within : l.from ≤ length l.initial.bytes / 8;
      mode : l.mode ≡ mode_after l.self.mode (take l.from blocks);
      plain : take (l.from * 8) l.bytes
          ≡ joined (xored l.self.mode (take l.from blocks)
          (map (g.K.ValueKeys.decryption l.self.keys l.value) (take l.from blocks)));
      rest : drop (l.from * 8) l.bytes ≡ drop (l.from * 8) l.initial.bytes;
    }

abbrev pub decreases-parts : goal.decreases-parts
decreases-parts g l = length l.initial.bytes / 8 - l.from
