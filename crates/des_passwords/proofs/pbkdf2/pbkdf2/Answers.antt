use Rattle.std.proofs.Common.{◌≡◌, ◌≤◌, ◌<◌, ◌∙◌, sym, ap, ◌*◌, ◌+◌, ◌-◌, ◌/◌, ◌++◌, length, take, arith}
use borrow.Rule.Slice.PartMut.{put_mid}
use Rattle.des_passwords.specs.Hmac.{hmac}
use Rattle.des_passwords.specs.Pbkdf2.{block, blocks}
use Rattle.des_passwords.proofs.IteratedTags.{blocks-none, blocks-next}
use Rattle.des_passwords.proofs.JoinedParts.{part_fits, last_cut, none_cut, part_more, all_written, one_more}
use Rattle.des_passwords.proofs.pbkdf2.pbkdf2.Goals as goal
use Rattle.des_passwords.proofs.pbkdf2.pbkdf2.Goals.{then-rest-gt0, else-rest-gt0}

pub parts-init : goal.parts-init
parts-init g c =
    let prf = hmac g.H.HashFunction.digest c.args.password.now in
    let none : g.H.HashFunction.SIZE * 0 ≡ 0 = omega arith in
    ap (λ n. take n c.args.key.now) none ∙ sym (blocks-none prf c.args.salt.now c.args.iterations)

-- one block more
pub parts-preserved : goal.parts-preserved
parts-preserved g c =
    let prf = hmac g.H.HashFunction.digest c.args.password.now in
    let size = c.SIZE-size.result in
    let is = c.SIZE-size.ensures in
    let i = c.parts.i in
    let xs = c.parts.key in
    let written = c.write_block.new.answer in
    let some : 0 < size = omega (arith, g.met.H.HashFunction.is_short.0, is) in
    let fits : size * i + size ≤ length xs =
    omega (arith, part_fits (length c.args.key.now) size i some c.parts-test.true, c.parts.auto.key) in
    let next : written ≡ block prf c.args.salt.now c.args.iterations (i + 1) =
    c.write_block.ensures.block c.args.password.now c.new-prf.ensures in
    let long : length written ≡ size = c.write_block.ensures.length ∙ sym is in
    let front = blocks prf c.args.salt.now c.args.iterations i in
    let so_far : take (size * i) xs ≡ front = ap (λ n. take (n * i) xs) is ∙ c.parts.invariant in
    let end : g.H.HashFunction.SIZE * (i + 1) ≡ size * i + length written =
    omega (arith, ap (λ n. n * (i + 1)) is, long) in
    part_more (size * i) (size * i + size - size * i) (g.H.HashFunction.SIZE * (i + 1)) xs written front
    (omega arith) end so_far
    ∙ ap (λ l. front ++ l) next
    ∙ sym (blocks-next prf c.args.salt.now c.args.iterations i)

pub returns-clause-ok : goal.returns-clause-ok
returns-clause-ok g c =
    let prf = hmac g.H.HashFunction.digest c.args.password.now in
    let size = c.SIZE-size.result in
    let is = c.SIZE-size.ensures in
    let whole = length c.args.key.now in
    let count = whole / size in
    let xs = c.parts.key in
    let some : 0 < size = omega (arith, g.met.H.HashFunction.is_short.0, is) in
    let ended : c.parts.i ≡ count = omega (arith, c.parts-test.false, c.parts.auto.i-end) in
    let front = blocks prf c.args.salt.now c.args.iterations in
    let last = block prf c.args.salt.now c.args.iterations (count + 1) in
    let so_far : take (size * count) xs ≡ front count =
    all_written xs front size g.H.HashFunction.SIZE count c.parts.i is ended c.parts.invariant in
    let more : take (length xs) (front count ++ last)
    ≡ take whole (front (whole / g.H.HashFunction.SIZE + 1)) =
    one_more xs (front count ++ last) front whole size g.H.HashFunction.SIZE c.parts.auto.key is
    (sym (blocks-next prf c.args.salt.now c.args.iterations count)) in
    elim c.if-rest-gt0.branch [
      | then-rest-gt0 w ↦
          let left = length xs - size * count in
          let written = w.write_block-then-rest-gt0.new.answer in
          let next : written ≡ last = w.write_block-then-rest-gt0.ensures.block c.args.password.now c.new-prf.ensures in
          let wide : length written ≡ size = w.write_block-then-rest-gt0.ensures.length ∙ sym is in
          w.key-is
          ∙ ap (put_mid (size * count) left xs) w.copy_from_slice.ensures.after
          ∙ last_cut (size * count) left xs (front count) written (omega (arith, some, c.parts.auto.key))
          (omega (arith, some, wide, c.parts.auto.key)) so_far
          ∙ ap (λ l. take (length xs) (front count ++ l)) next
          ∙ more
      | else-rest-gt0 w ↦
          let all : size * count ≡ length xs = omega (arith, some, c.parts.auto.key, w.if-rest-gt0.false) in
          w.key-is ∙ none_cut (size * count) xs (front count) last all so_far ∙ more
    ]
