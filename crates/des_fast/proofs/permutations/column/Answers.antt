use Rattle.std.proofs.Common.{◌≡◌, ℕ, ◌%◌, ◌^◌, List, Bool, false, cond, length, map, replicate, get_or, w8, refl, ap, ◌∙◌, arith}
use Rattle.std.specs.Int.{bit_at}
use Rattle.std.specs.Simd.Lanes.{zip2, top, mask_l}
use Rattle.std.proofs.Math.Dec.{leb}
use Rattle.std.proofs.lemmas.List.{length-map, get_or-map}
use Rattle.std.proofs.lemmas.Simd.{tops_compared, zip2_splat_left, mask_l-lt, mask_l-mod, bit_mask_l, Each1-get_or}
use Rattle.des.proofs.BitParts.{same_below}
use Rattle.des_fast.proofs.permutations.column.Goals as goal

-- the mask of the bytes from 128 on
mask-is : (bytes : List ℕ) → length bytes ≡ 16
    → mask_l (map (top 7) (zip2 (λ a b. cond (leb a b) 255 0) (replicate 16 128) bytes)) % 2 ^ 64
    ≡ mask_l (map (leb 128) bytes)
mask-is bytes count =
    ap (λ (tests : List Bool). mask_l tests % 2 ^ 64)
    (tops_compared w8 leb (replicate 16 128) bytes ∙ zip2_splat_left leb 128 16 bytes count)
    ∙ mask_l-mod (map (leb 128) bytes) 64 (omega (arith, length-map bytes (leb 128)))

pub returns-clause-within : goal.returns-clause-within
returns-clause-within c =
    let bytes : List ℕ = c.args.bytes in
    let count : length (map (leb 128) bytes) ≡ 16 = length-map bytes (leb 128) ∙ c.fits-bytes.0 in
    rw (mask-is bytes c.fits-bytes.0) (rw count at (mask_l-lt (map (leb 128) bytes)))

pub returns-clause-bits : goal.returns-clause-bits
returns-clause-bits c i below =
    let bytes : List ℕ = c.args.bytes in
    ap (λ (mask : ℕ). bit_at mask i) (mask-is bytes c.fits-bytes.0)
    ∙ bit_mask_l (map (leb 128) bytes) i
    ∙ ap (λ (test : Bool). cond test 1 0) (get_or-map (leb 128) bytes i 0 false (omega (arith, c.fits-bytes.0)))
    ∙ same_below (λ byte. cond (leb 128 byte) 1 0) (λ byte. bit_at byte 7) 256 (get_or bytes i 0) refl
    (Each1-get_or _ bytes i 0 (omega (arith, c.fits-bytes.0)) c.fits-bytes.1).fits
