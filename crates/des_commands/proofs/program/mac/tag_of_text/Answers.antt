use Rattle.des_commands.proofs.TagsOfDigits.{tag_of_all}
use Rattle.des_commands.proofs.program.mac.tag_of_text.Goals as goal

pub returns : goal.returns
returns g c = tag_of_all _ _ _ _ _ c.new-reader.ensures.bytes c.in_ok-outcome-in-None.ensures.tag
