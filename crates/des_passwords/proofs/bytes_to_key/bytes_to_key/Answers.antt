use Rattle.std.proofs.Common.{◌≡◌, ◌≤◌, ◌<◌, ◌∙◌, sym, ap, ℕ, ◌*◌, ◌+◌, ◌-◌, ◌/◌, List, ◌++◌, length, take, arith, length-take-le}
use Rattle.std.proofs.lemmas.List.{take_all}
use borrow.Rule.Slice.PartMut.{put_mid}
use Rattle.des_passwords.specs.BytesToKey.{d, ds, repeated}
use Rattle.des_passwords.proofs.CountedDigests.{d-none, d-next, ds-none, ds-next}
use Rattle.des_passwords.proofs.JoinedParts.{part_fits, last_cut, none_cut, part_more, all_written, one_more}
use Rattle.des_passwords.proofs.bytes_to_key.bytes_to_key.Goals as goal

pub digests-init : goal.digests-init
digests-init g c =
    let digest = g.H.HashFunction.digest in
    let none : g.H.HashFunction.SIZE * 0 ≡ 0 = omega arith in
    let short : c.SIZE-size.result ≤ 32 = omega (arith, g.met.H.HashFunction.is_short.1, c.SIZE-size.ensures) in
    record {
      width = length-take-le c.SIZE-size.result _ short ∙ c.SIZE-size.ensures;
      fits = omega arith;
      previous = sym (d-none digest c.args.iterations c.args.password.now c.args.salt.now);
      written = ap (λ n. take n c.args.bytes.now) none
          ∙ sym (ds-none digest c.args.iterations c.args.password.now c.args.salt.now);
    }

-- one digest more
pub digests-preserved : goal.digests-preserved
digests-preserved g c =
    let digest = g.H.HashFunction.digest in
    let size = c.SIZE-size.result in
    let is = c.SIZE-size.ensures in
    let i = c.digests.i in
    let xs = c.digests.bytes in
    let last = c.write_next.new.last in
    let some : 0 < size = omega (arith, g.met.H.HashFunction.is_short.0, is) in
    let fits : size * i + size ≤ length xs =
    omega (arith, part_fits (length c.args.bytes.now) size i some c.digests-test.true, c.digests.auto.bytes) in
    let next : last ≡ d digest c.args.iterations c.args.password.now c.args.salt.now (i + 1) =
    c.write_next.ensures.digest
    ∙ ap (λ (l : List ℕ). repeated digest c.args.iterations (l ++ c.args.password.now ++ c.args.salt.now))
    c.digests.invariant.previous
    ∙ sym (d-next digest c.args.iterations c.args.password.now c.args.salt.now i) in
    let copied = c.copy_from_slice.new.self in
    let long : length copied ≡ size =
    ap length c.copy_from_slice.ensures.after ∙ c.write_next.ensures.length ∙ sym is in
    let front = ds digest c.args.iterations c.args.password.now c.args.salt.now i in
    let written : take (size * i) xs ≡ front = ap (λ n. take (n * i) xs) is ∙ c.digests.invariant.written in
    let end : g.H.HashFunction.SIZE * (i + 1) ≡ size * i + length copied =
    omega (arith, ap (λ n. n * (i + 1)) is, long) in
    record {
      width = c.write_next.ensures.length;
      fits = omega (arith, is);
      previous = take_all size last (omega (arith, is, c.write_next.ensures.length)) ∙ next;
      written = part_more (size * i) (size * i + size - size * i) (g.H.HashFunction.SIZE * (i + 1)) xs copied front
          (omega arith) end written
          ∙ ap (λ l. front ++ l) (c.copy_from_slice.ensures.after ∙ next)
          ∙ sym (ds-next digest c.args.iterations c.args.password.now c.args.salt.now i);
    }

-- the first bytes of one digest more
pub returns-then-rest-gt0-clause-ok : goal.returns-then-rest-gt0-clause-ok
returns-then-rest-gt0-clause-ok g c =
    let digest = g.H.HashFunction.digest in
    let size = c.SIZE-size.result in
    let is = c.SIZE-size.ensures in
    let long = length c.args.bytes.now in
    let count = long / size in
    let xs = c.digests.bytes in
    let last = c.write_next-then-rest-gt0.new.last in
    let some : 0 < size = omega (arith, g.met.H.HashFunction.is_short.0, is) in
    let ended : c.digests.i ≡ count = omega (arith, c.digests-test.false, c.digests.auto.i-end) in
    let front = ds digest c.args.iterations c.args.password.now c.args.salt.now in
    let written : take (size * count) xs ≡ front count =
    all_written xs front size g.H.HashFunction.SIZE count c.digests.i is ended c.digests.invariant.written in
    let next : last ≡ d digest c.args.iterations c.args.password.now c.args.salt.now (count + 1) =
    c.write_next-then-rest-gt0.ensures.digest
    ∙ ap (λ (l : List ℕ). repeated digest c.args.iterations (l ++ c.args.password.now ++ c.args.salt.now))
    c.digests.invariant.previous
    ∙ sym (d-next digest c.args.iterations c.args.password.now c.args.salt.now c.digests.i)
    ∙ ap (λ n. d digest c.args.iterations c.args.password.now c.args.salt.now (n + 1)) ended in
    let wide : length last ≡ size = c.write_next-then-rest-gt0.ensures.length ∙ sym is in
    let left = length xs - size * count in
    ap (put_mid (size * count) left xs) c.copy_from_slice-then-rest-gt0.ensures.after
    ∙ last_cut (size * count) left xs (front count) last (omega (arith, some, c.digests.auto.bytes))
    (omega (arith, some, wide, c.digests.auto.bytes)) written
    ∙ ap (λ l. take (length xs) (front count ++ l)) next
    ∙ one_more xs
    (front count ++ d digest c.args.iterations c.args.password.now c.args.salt.now (count + 1))
    front long size g.H.HashFunction.SIZE c.digests.auto.bytes is
    (sym (ds-next digest c.args.iterations c.args.password.now c.args.salt.now count))

-- no byte is left
pub returns-else-rest-gt0-clause-ok : goal.returns-else-rest-gt0-clause-ok
returns-else-rest-gt0-clause-ok g c =
    let digest = g.H.HashFunction.digest in
    let size = c.SIZE-size.result in
    let is = c.SIZE-size.ensures in
    let long = length c.args.bytes.now in
    let count = long / size in
    let xs = c.digests.bytes in
    let some : 0 < size = omega (arith, g.met.H.HashFunction.is_short.0, is) in
    let ended : c.digests.i ≡ count = omega (arith, c.digests-test.false, c.digests.auto.i-end) in
    let front = ds digest c.args.iterations c.args.password.now c.args.salt.now in
    let written : take (size * count) xs ≡ front count =
    all_written xs front size g.H.HashFunction.SIZE count c.digests.i is ended c.digests.invariant.written in
    let all : size * count ≡ length xs = omega (arith, some, c.digests.auto.bytes, c.if-rest-gt0.false) in
    none_cut (size * count) xs (front count)
    (d digest c.args.iterations c.args.password.now c.args.salt.now (count + 1)) all written
    ∙ one_more xs
    (front count ++ d digest c.args.iterations c.args.password.now c.args.salt.now (count + 1))
    front long size g.H.HashFunction.SIZE c.digests.auto.bytes is
    (sym (ds-next digest c.args.iterations c.args.password.now c.args.salt.now count))
