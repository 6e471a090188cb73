use Rattle.std.proofs.Common.{◌≡◌, ℕ, List, ◌∷◌, ◌++◌, ap}
use Rattle.des_key_wraps.proofs.Enclosed.{Encloses-from_Cbc}
use Rattle.des_key_wraps.proofs.cms_key_wrap.enclose.Goals as goal

pub returns : goal.returns
returns g c =
    let temp1 : List (List ℕ) = c.encrypt.new.blocks in
    let back = c.split_at_mut-first.ensures.back in
    let put : c.copy_from_slice.new.self ++ temp1 ≡ c.args.iv.now ∷ temp1 =
    ap (λ (xs : List (List ℕ)). xs ++ temp1) c.copy_from_slice.ensures.after in
    Encloses-from_Cbc (rw back at c.encrypt.ensures.blocks) (rw (c.reverse_bytes.ensures, put) at c.encrypt-2.ensures.blocks)
    c.are_blocks.ensures (rw back at c.encrypt.ensures.chained) (rw (c.reverse_bytes.ensures, put) at c.encrypt-2.ensures.chained)
