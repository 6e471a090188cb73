use Rattle.std.proofs.Common.{◌≡◌, ◌<◌, ◌+◌, ◌++◌, ℕ, length, take}
use Rattle.des_passwords.specs.Pkcs12.{copies}
use Rattle.des_passwords.proofs.pkcs12.BytesBlocks.next_block.Given as goal

-- the bytes before, and those to come
abbrev pub invariant-bytes : goal.invariant-bytes
invariant-bytes l = record {
  all : l.self.all.now ≡ l.fn.self.all.now;
  some : 0 < length l.self.all.now;
  size : length l.block ≡ 64;
  bytes : (n : ℕ) → copies l.fn.self.all.now l.fn.self.rest.now (l.i + n)
      ≡ take l.i l.block ++ copies l.fn.self.all.now l.self.rest.now n;
}
