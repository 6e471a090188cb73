use Rattle.std.proofs.Common.{ap, ◌∙◌}
use Rattle.des.specs.KeySchedule.{key_schedule}
use Rattle.des.specs.Laws.DesLaws as port
use Rattle.des.proofs.ByteArrays.{IsKey-array}
use Rattle.des.proofs.Graphs.{IsBijection-key, IsGraphOf-encryption, IsGraphOf-decryption}
use Rattle.des_fast.specs.Laws.DesLaws.{Agree-encrypted, Agree-decrypted}
use Rattle.des.proofs.PassGraphs.{AgreeOnBlocks-Agree}
use Rattle.des_fast.proofs.single.DesKeyInit.new.Goals as goal

pub returns-clause-made : goal.returns-clause-made
returns-clause-made g c = (
  IsKey-array 8 c.args.key.now c.told-key c.fits-key,
  c.new.ensures ∙ ap key_schedule c.word_of.ensures.bits,
)

pub returns-clause-bijective : goal.returns-clause-bijective
returns-clause-bijective g c = IsBijection-key c.args.key.now (returns-clause-made g c).0

pub returns-clause-encryption : goal.returns-clause-encryption
returns-clause-encryption g c = IsGraphOf-encryption c.args.key.now (returns-clause-made g c).0

pub returns-clause-decryption : goal.returns-clause-decryption
returns-clause-decryption g c = IsGraphOf-decryption c.args.key.now (returns-clause-made g c).0

pub returns-clause-encrypts_alike : goal.returns-clause-encrypts_alike
returns-clause-encrypts_alike g c other made =
    AgreeOnBlocks-Agree (Agree-encrypted {W = g.row.W.Denot} (record { schedule = c.new.result; lookup = _ }) c.args.key.now (returns-clause-made g c))
    (port.Agree-encrypted other c.args.key.now made)

pub returns-clause-decrypts_alike : goal.returns-clause-decrypts_alike
returns-clause-decrypts_alike g c other made =
    AgreeOnBlocks-Agree (Agree-decrypted {W = g.row.W.Denot} (record { schedule = c.new.result; lookup = _ }) c.args.key.now (returns-clause-made g c))
    (port.Agree-decrypted other c.args.key.now made)
