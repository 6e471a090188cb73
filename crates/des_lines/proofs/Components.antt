-- Components of a key: two at least.
use Rattle.std.proofs.Common.{◌≡◌, ◌⊎◌, ℕ, ◌*◌, ◌/◌, ◌%◌, ◌≤◌, Bool, true, false, not, if◌then◌else◌, List, [], length, Some, None, Result, Ok, Err, is_ok, inl, inr, refl, arith}
use Rattle.std.specs.Prelude.{◌==◌}
use Rattle.std.specs.Result.{result_unwrap_or}
use Rattle.std.proofs.lemmas.Bool.Decides.{nat_tests}
use Rattle.std.specs.declared.vec.Vec.{Vec}
use Rattle.std.specs.declared.alloc.Global.{Global}
use Rattle.hex.specs.declared.error.FromHexError.{FromHexError}
use Rattle.hex.specs.declared.error.FromHexError.TheVariants.{OddLength}
use Rattle.hex.specs.Hex.{decode_of, decode_pairs}
use Rattle.hex.proofs.HexLemmas.{decode_pairs-ok}
use Rattle.des.specs.WeakKeys.{IsRefused}
use Rattle.des_lines.specs.declared.fault.FaultKind.{FaultKind}
use Rattle.des_lines.specs.declared.fault.FaultKind.TheVariants.{KeyText}
use Rattle.des_lines.specs.Faults.{FailsOrRefuses}
use Rattle.des_lines.specs.Lines.{few_fault, key_of_components}
use Rattle.des_lines.specs.Texts.{bytes_of, text_fault}

-- two digits write a byte
decoded : (odd : Bool) (digits bytes : List ℕ) → (if odd then Err OddLength else decode_pairs 0 digits) ≡ Ok bytes
    → length digits ≡ 2 * length bytes
decoded true digits bytes is = cc is
decoded false digits bytes is = (decode_pairs-ok 0 digits bytes is).1

unwrapped : (n : ℕ) (result : Result (List ℕ) FromHexError)
    → ((bytes : List ℕ) → result ≡ Ok bytes → n ≡ 2 * length bytes) → is_ok result ≡ true
    → n ≡ 2 * length (result_unwrap_or result [])
unwrapped n (Ok bytes) twice is = twice bytes refl
unwrapped n (Err error) twice is = cc is

twice-bytes : (digits : List ℕ) → is_ok (decode_of digits) ≡ true → length digits ≡ 2 * length (bytes_of digits)
twice-bytes digits is =
    unwrapped (length digits) (decode_of digits) (λ bytes same. decoded (length digits % 2 == 1) digits bytes same) is

pub enough : (count : ℕ) → 2 ≤ count → few_fault count ≡ None
enough count two = grind (arith, nat_tests)

-- digits of two components, or more, are at least two components
two-at-least : (digits bytes size : ℕ) → (size ≡ 8) ⊎ ((size ≡ 16) ⊎ (size ≡ 24)) → 4 * size ≤ digits
    → digits ≡ 2 * bytes → 2 ≤ bytes / size
two-at-least digits bytes size (inl one) long twice = let long = rw one at long in rw one (omega arith)
two-at-least digits bytes size (inr (inl two)) long twice = let long = rw two at long in rw two (omega arith)
two-at-least digits bytes size (inr (inr three)) long twice = let long = rw three at long in rw three (omega arith)

read : (ok : Bool) (fault : FaultKind) → (if not ok then Some fault else None) ≡ None → ok ≡ true
read true fault none = refl
read false fault none = cc none

-- digits without a fault write components: what is left is that the key is refused
pub components-fail : (digits : List ℕ) (size : ℕ) (result : Result (Vec ℕ Global) FaultKind)
    → (size ≡ 8) ⊎ ((size ≡ 16) ⊎ (size ≡ 24)) → 4 * size ≤ length digits → text_fault KeyText digits ≡ None
    → FailsOrRefuses (few_fault (length (bytes_of digits) / size)) (IsRefused (key_of_components size (bytes_of digits)))
    result
    → FailsOrRefuses (text_fault KeyText digits) (IsRefused (key_of_components size (bytes_of digits))) result
components-fail digits size result sizes long none fails =
    let twice = twice-bytes digits (read (is_ok (decode_of digits)) KeyText none) in
    let few = enough (length (bytes_of digits) / size)
    (two-at-least (length digits) (length (bytes_of digits)) size sizes long twice) in
    let left = rw few at fails in
    rw none left
