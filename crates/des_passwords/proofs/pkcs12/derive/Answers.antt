use Rattle.std.proofs.Common.{ℕ, ◌≡◌, ◌-◌, ◌∙◌, ◌++◌, List, length, take, append-nil, Some, ap, ap₂, sym, arith}
use Rattle.des_passwords.specs.Pkcs12.{a_of, b_of, all_raised_by, bmp_string, copies, in_blocks}
use Rattle.des_passwords.proofs.BlocksOfTexts.{none_raised}
use Rattle.des_passwords.proofs.CopiedTexts.{copies-none}
use Rattle.des_passwords.proofs.DerivedDigests.{one_digest, two_digests, second_of}
use Rattle.des_passwords.proofs.pkcs12.derive.Goals as goal

-- the first digest is enough
pub returns-then-count-size-clause-ok : goal.returns-then-count-size-clause-ok
returns-then-count-size-clause-ok g c =
    let hash = g.H.HashFunction.digest in
    let i = in_blocks c.args.salt.now ++ in_blocks (bmp_string c.args.password.now) in
    let a = a_of hash c.args.id c.args.iterations i in
    let n = length c.args.bytes.now in
    let size = g.H.HashFunction.SIZE in
    let made : c.write_a.new.a ≡ a =
    c.write_a.ensures.a
    ∙ ap (a_of hash c.args.id c.args.iterations) (none_raised c.args.salt.now (bmp_string c.args.password.now)) in
    c.copy_from_slice.ensures.after
    ∙ ap (take n) made
    ∙ sym (one_digest hash c.args.id c.args.iterations i n size g.met.H.HashFunction.is_short.0
    (omega (arith, c.if-count-size.true, c.SIZE-size.ensures))
    (ap length (sym made) ∙ c.write_a.ensures.length))

-- with the second behind it
pub returns-clause-ok : goal.returns-clause-ok
returns-clause-ok g c =
    let hash = g.H.HashFunction.digest in
    let i = in_blocks c.args.salt.now ++ in_blocks (bmp_string c.args.password.now) in
    let a = a_of hash c.args.id c.args.iterations i in
    let n = length c.args.bytes.now in
    let size = g.H.HashFunction.SIZE in
    let made : c.write_a.new.a ≡ a =
    c.write_a.ensures.a
    ∙ ap (a_of hash c.args.id c.args.iterations) (none_raised c.args.salt.now (bmp_string c.args.password.now)) in
    let long : length a ≡ size = ap length (sym made) ∙ c.write_a.ensures.length in
    let b : c.next_block-b.result ≡ b_of a =
    sym (append-nil c.next_block-b.result)
    ∙ ap (λ (l : List ℕ). c.next_block-b.result ++ l) (sym (copies-none c.new.result.all.now c.next_block-b.new.self.rest.now))
    ∙ sym (c.next_block-b.ensures.block 0)
    ∙ ap₂ (λ (text left : List ℕ). copies text left 64) c.new.ensures.all c.new.ensures.rest
    ∙ ap b_of made in
    let second : c.write_a-2.new.a ≡ second_of hash c.args.id c.args.iterations i =
    c.write_a-2.ensures.a
    ∙ ap (λ (block : List ℕ). a_of hash c.args.id c.args.iterations (all_raised_by (Some block) i)) b in
    ap₂ (λ (x y : List ℕ). x ++ y)
    (c.copy_from_slice-2.ensures.after ∙ made)
    (c.copy_from_slice-3.ensures.after ∙ ap (λ m. take (n - m) c.write_a-2.new.a) c.SIZE-size.ensures ∙ ap (take (n - size)) second)
    ∙ sym (two_digests hash c.args.id c.args.iterations i n size (omega (arith, c.if-count-size.false, c.SIZE-size.ensures))
    c.requires long)
