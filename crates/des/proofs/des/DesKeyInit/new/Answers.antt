use Rattle.std.proofs.Common.{arith}
use Rattle.des.proofs.RoundKeys.{HoldRoundKeys-bytes}
use Rattle.des.proofs.Graphs.{IsBijection-key, IsGraphOf-encryption, IsGraphOf-decryption}
use Rattle.des.proofs.des.DesKeyInit.new.Goals as goal

pub invariant_of-result : goal.invariant_of-result
invariant_of-result c =
    let kept = HoldRoundKeys-bytes c.gen_keys.result c.args.key.now c.from_be_bytes.result (omega arith) c.fits-key
    c.from_be_bytes.ensures c.gen_keys.ensures.words in
    record { scheduled = ∣ (c.args.key.now, kept.0, kept.1) ∣₁ }

pub returns-clause-made : goal.returns-clause-made
returns-clause-made c =
    HoldRoundKeys-bytes c.gen_keys.result c.args.key.now c.from_be_bytes.result (omega arith) c.fits-key
    c.from_be_bytes.ensures c.gen_keys.ensures.words

pub returns-clause-bijective : goal.returns-clause-bijective
returns-clause-bijective c = IsBijection-key c.args.key.now (returns-clause-made c).0

pub returns-clause-encryption : goal.returns-clause-encryption
returns-clause-encryption c = IsGraphOf-encryption c.args.key.now (returns-clause-made c).0

pub returns-clause-decryption : goal.returns-clause-decryption
returns-clause-decryption c = IsGraphOf-decryption c.args.key.now (returns-clause-made c).0
