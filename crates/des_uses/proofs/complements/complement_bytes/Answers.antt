use Rattle.std.proofs.Common.{ℕ, ap, sym, ◌∙◌, rules, set, get_or}
use Rattle.std.proofs.lemmas.List.Edits.{map_over_more}
use Rattle.des.specs.Complement.{complement_of_byte}
use Rattle.des.specs.Laws.ComplementBits.{complement_of_byte-rest}
use Rattle.des_uses.proofs.complements.complement_bytes.Goals as goal

pub loop-byte-preserved : goal.loop-byte-preserved
loop-byte-preserved c =
    let i : ℕ = c.loop-byte.byte-index in
    let byte : ℕ = get_or c.loop-byte.bytes i 0 in
    ap (set c.loop-byte.bytes i) (sym (complement_of_byte-rest byte (search rules)))
    ∙ map_over_more complement_of_byte c.args.bytes.now c.loop-byte.bytes i byte (search rules)
    c.loop-byte.invariant (search rules)
