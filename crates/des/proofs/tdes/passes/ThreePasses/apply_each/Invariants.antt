use Rattle.std.proofs.Common.{◌≡◌, ◌++◌, map, take, drop}
use Rattle.des.specs.TripleCiphers.{thrice_passed}
use Rattle.des.proofs.tdes.passes.ThreePasses.apply_each.Given as goal

-- the blocks before the index are answered, and those from it on are as they were
abbrev pub invariant-loop-block : goal.invariant-loop-block
invariant-loop-block g l =
    l.blocks
    ≡ map (thrice_passed g.D.BlockCipherEncrypt.encrypted g.D.BlockCipherDecrypt.decrypted l.self)
    (take l.block-index l.initial.blocks)
    ++ drop l.block-index l.initial.blocks
