use Rattle.std.proofs.Common.{◌≡◌, ◌+◌, ◌*◌, ◌++◌, ℕ, length, take}
use Rattle.std.specs.List.{flat_map}
use Rattle.des_passwords.specs.BmpStrings.{all_units, units_left}
use Rattle.des_passwords.specs.Pkcs12.{big_endian, copies}
use Rattle.des_passwords.proofs.pkcs12.UnitsBlocks.next_block.Given as goal

-- the units before, and those to come
abbrev pub invariant-units : goal.invariant-units
invariant-units l = record {
  all : all_units l.self ≡ all_units l.fn.self;
  size : length l.block ≡ 64;
  units : (n : ℕ) → flat_map big_endian (copies (all_units l.fn.self) (units_left l.fn.self) (l.i + n))
      ≡ take (2 * l.i) l.block ++ flat_map big_endian (copies (all_units l.fn.self) (units_left l.self) n);
}
