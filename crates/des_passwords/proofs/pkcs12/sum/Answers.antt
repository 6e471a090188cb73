use Rattle.std.proofs.Common.{rules, ℕ, suc, ◌≡◌, ◌∙◌, ◌+◌, ◌-◌, ◌/◌, ◌^◌, List, ◌++◌, length, take, ap, arith}
use Rattle.des_passwords.specs.Pkcs12.{bytes_of}
use Rattle.des_passwords.proofs.RaisedBlocks.{sum_from, carry-at, bytes-at, sum_end, bytes_end}
use Rattle.des_passwords.proofs.pkcs12.sum.Goals as goal

pub places-init : goal.places-init
places-init c = record {
  little = omega arith;
  carry = omega (arith, sum_end c.args.block.now c.args.b.now c.told-block c.told-b);
  bytes = bytes_end c.args.block.now (sum_from c.args.block.now c.args.b.now 64) c.told-block;
}

-- a place more
pub places-preserved : goal.places-preserved
places-preserved c =
    let xs : List ℕ = c.args.block.now in
    let ys : List ℕ = c.args.b.now in
    let i = c.places.i - 1 in
    let k = 64 - c.places.i in
    let before : c.places.i ≡ suc i = omega (arith, c.places-test.true) in
    let more : suc k ≡ 64 - i = omega (arith, c.places-test.true, c.places.auto.i) in
    let xs_size : length xs ≡ suc i + k = omega (arith, c.told-block, c.places-test.true, c.places.auto.i) in
    let ys_size : length ys ≡ suc i + k = omega (arith, c.told-b, c.places-test.true, c.places.auto.i) in
    let carry = c.places.invariant.carry ∙ ap (λ j. sum_from xs ys j / 256 ^ k) before in
    record {
      little = search rules;
      carry =
          carry-at xs ys i k c.places.carry xs_size ys_size carry
          ∙ ap (λ n. sum_from xs ys i / 256 ^ n) more;
      bytes =
          bytes-at xs ys c.places.answer i k c.places.carry xs_size ys_size carry
          (c.places.invariant.bytes ∙ ap (λ j. take j xs ++ bytes_of k (sum_from xs ys j)) before)
          ∙ ap (λ n. take i xs ++ bytes_of n (sum_from xs ys i)) more;
    }
