use Rattle.std.proofs.Common.{◌≡◌, ap, sym, ◌∙◌, rules}
use Rattle.des_modes.specs.Modes.{mode_by}
use Rattle.des_modes.specs.States.{IsInMode}
use Rattle.des_modes.specs.declared.modes.Mode.TheVariants.{BitFeedback, Counter}
use Rattle.des_modes.specs.declared.modes.TheConstants.{CTR}
use Rattle.des_uses.proofs.stream_ciphers.decrypt_part_of_ctr.Goals as goal

pub returns : goal.returns
returns g c = λ before text encrypted size bytes first whole.
    let begun =
    c.ctr_at-stream.ensures.place (g.C.BlockCipherEncrypt.encrypted c.args.cipher.now) before encrypted size bytes first in
    let mode : IsInMode c.unwrap-mode.result c.ctr_at-stream.result = search rules in
    let counter : c.unwrap-mode.result ≡ Counter = mode.2 ∙ ap mode_by begun.is_mode in
    c.apply.ensures.undone CTR c.args.block.now before encrypted text begun
    (λ bits. let other : Counter ≡ BitFeedback = sym counter ∙ bits in absurd (cc other)) (rw counter whole)
