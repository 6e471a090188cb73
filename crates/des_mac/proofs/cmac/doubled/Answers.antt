use Rattle.std.proofs.Common.{sym, ◌∙◌}
use Rattle.des_mac.proofs.Doubling.{doubled-low, doubled-high}
use Rattle.des_mac.proofs.cmac.doubled.Goals as goal
use Rattle.des_mac.proofs.cmac.doubled.Goals.{then-word, else-word}

pub returns : goal.returns
returns c = elim c.if-word.branch [
  | then-word w ↦
      rw w.answer-is at c.to_be_bytes.ensures ∙ sym (doubled-low _ _ c.from_be_bytes-word.ensures w.if-word.true)
  | else-word w ↦
      rw w.answer-is at c.to_be_bytes.ensures ∙ sym (doubled-high _ _ c.from_be_bytes-word.ensures w.if-word.false)
]
