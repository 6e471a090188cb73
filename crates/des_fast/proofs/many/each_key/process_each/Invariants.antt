-- The blocks before the index are answered, and the others are as they were.
use Rattle.std.proofs.Common.{◌≡◌, ◌-◌, ◌≤◌, ◌++◌, length, map, take, drop}
use Rattle.std.specs.Simd.Lanes.{zip2}
use Rattle.des_fast.specs.LaneKeys.{block_in}
use Rattle.des_fast.proofs.many.each_key.process_each.Given as goal

abbrev pub invariant-parts : goal.invariant-parts
invariant-parts g l = record {
  within : l.from ≤ length l.blocks;
  answered : l.blocks ≡ zip2 (block_in l.deciphers g.C.KeyedCipher.encryption g.C.KeyedCipher.decryption)
      (take l.from (map g.C.Key.KeyBytes.bytes_of l.keys)) (take l.from l.initial.blocks)
      ++ drop l.from l.initial.blocks;
}

abbrev pub decreases-parts : goal.decreases-parts
decreases-parts g l = length l.blocks - l.from
