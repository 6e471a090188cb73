use Rattle.std.proofs.Common.{◌≡◌, ◌-◌, ◌/◌, ◌^◌, ◌≤◌, ◌++◌, take}
use Rattle.des_passwords.specs.Pkcs12.{bytes_of}
use Rattle.des_passwords.proofs.RaisedBlocks.{sum_from}
use Rattle.des_passwords.proofs.pkcs12.sum.Given as goal

-- the bytes from this place on are those of the sum, and the carry is what is above them
abbrev pub invariant-places : goal.invariant-places
invariant-places l = record {
  little : l.carry ≤ 1;
  carry : l.carry ≡ sum_from l.block l.b l.i / 256 ^ (64 - l.i);
  bytes : l.answer ≡ take l.i l.block ++ bytes_of (64 - l.i) (sum_from l.block l.b l.i);
}
