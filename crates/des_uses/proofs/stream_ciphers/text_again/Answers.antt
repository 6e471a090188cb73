use Rattle.std.proofs.Common.{◌≡◌, ℕ, List, [], ◌++◌, ap, ap₂, ◌∙◌, rules, take-append-drop}
use Rattle.des_modes.specs.Modes.{mode_by}
use Rattle.des_modes.specs.States.{IsInMode}
use Rattle.des_uses.proofs.stream_ciphers.text_again.Goals as goal

pub returns-clause-encrypted : goal.returns-clause-encrypted
returns-clause-encrypted g c = λ done.
    let text : List ℕ = c.args.text.now in
    let both : c.split_at_mut-head.result.0.now ++ c.split_at_mut-head.result.1.now ≡ text =
    ap₂ ◌++◌ c.split_at_mut-head.ensures.front c.split_at_mut-head.ensures.back
    ∙ take-append-drop c.args.count c.copy_from_slice.new.self ∙ c.copy_from_slice.ensures.after in
    rw (← both) (c.encrypt_in_two_pieces.ensures.whole (search rules))

pub returns-clause-same : goal.returns-clause-same
returns-clause-same g c = λ done.
    let text : List ℕ = c.args.text.now in
    let encryption : List ℕ → List ℕ = g.C.BlockCipherEncrypt.encrypted c.args.cipher.now in
    let begun = (rw c.unwrap-stream.ensures at c.new.ensures.some).1 encryption in
    let mode : IsInMode c.unwrap-mode.result c.unwrap-stream.result = search rules in
    let same : c.unwrap-mode.result ≡ mode_by c.args.number = mode.2 ∙ ap mode_by begun.is_mode in
    c.apply.ensures.undone c.args.number c.args.iv.now [] [] text begun (λ bits. c.are_bytes.ensures)
    (rw (same, c.copy_from_slice-2.ensures.after) (returns-clause-encrypted g c done))
