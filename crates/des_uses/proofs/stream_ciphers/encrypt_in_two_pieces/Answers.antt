use Rattle.std.proofs.Common.{◌≡◌, ℕ, List, [], Option, Some, None, IfNone, refl, ap, sym, ◌∙◌, rules}
use Rattle.std.specs.Option.{IsSome}
use Rattle.des_modes.specs.Modes.{mode_by}
use Rattle.des_modes.specs.States.{HasBegun, IsInMode}
use Rattle.des_uses.proofs.stream_ciphers.encrypt_in_two_pieces.Goals as goal

some-if : {X P : Type 0} (found : Option X) → IfNone found (¬ P) → P → IsSome found
some-if None none holds = absurd (none holds)
some-if (Some x) none holds = refl

pub unwrap-mode-requires : goal.unwrap-mode-requires
unwrap-mode-requires g c =
    some-if {P = HasBegun c.in-Some.stream} c.mode.result c.mode.ensures.none
    (c.in-Some.ensures.some.1 (g.C.BlockCipherEncrypt.encrypted c.args.cipher.now)).begun

pub apply-requires-2 : goal.apply-requires-2
apply-requires-2 g c =
    let iv : List ℕ = c.args.iv.now in
    let first : IsInMode c.unwrap-mode.result c.in-Some.stream = search rules in
    let begun = c.in-Some.ensures.some.1 (g.C.BlockCipherEncrypt.encrypted c.args.cipher.now) in
    let next = c.apply.ensures.bytes c.args.number iv [] [] begun in
    let same : c.unwrap-mode.result ≡ mode_by c.apply.new.self.mode =
    first.2 ∙ ap mode_by (begun.is_mode ∙ sym next.is_mode) in
    (next.begun.0, next.begun.1, same, rw same next.begun.2)

pub returns-clause-whole : goal.returns-clause-whole
returns-clause-whole g c = λ done.
    let iv : List ℕ = c.args.iv.now in
    let begun = c.in-Some.ensures.some.1 (g.C.BlockCipherEncrypt.encrypted c.args.cipher.now) in
    (c.apply-2.ensures.bytes c.args.number iv c.args.head.now c.apply.new.bytes
    (c.apply.ensures.bytes c.args.number iv [] [] begun)).made
