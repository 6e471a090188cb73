-- Limits in blocks, if there are some.
use Rattle.std.proofs.Common.{◌≡◌, ◌⊎◌, inl, inr, ℕ, ◌+◌, ◌*◌, ◌/◌, ◌<◌, ◌≤◌, List, ◌++◌, Option, None, Some, IfSome, length, ap, ◌∙◌, arith, length-append}
use Rattle.std.specs.Io.KnownBytes.{IsAtEnd}
use Rattle.des_io.specs.Streams.{IsLeft, IsWithin}

-- at the beginning all is left
pub IsLeft-all : (limit : Option ℕ) (count : ℕ) → count ≡ 0 → IsLeft limit count limit
IsLeft-all None count none = tt
IsLeft-all (Some limit) count none = omega (arith, none)

-- after more blocks less is left
pub IsLeft-more : (limit left then : Option ℕ) (q more all : List (List ℕ)) (count : ℕ) → IsLeft limit (length q) left
    → IsLeft left count then
    → length more ≡ count → all ≡ q ++ more → IsLeft limit (length all) then
IsLeft-more None None None q more all count first second same is = tt
IsLeft-more (Some limit) (Some left) (Some then) q more all count first second same is =
    omega (arith, ap length is ∙ length-append q more, first, second, same)
IsLeft-more None (Some left) then q more all count first second same is = absurd first
IsLeft-more (Some limit) None then q more all count first second same is = absurd first
IsLeft-more None None (Some then) q more all count first second same is = absurd second
IsLeft-more (Some limit) (Some left) None q more all count first second same is = absurd second

-- after all that was left the limit was read
pub IsLeft-none : (limit left : Option ℕ) (q more all : List (List ℕ)) (count : ℕ) → IsLeft limit (length q) left
    → left ≡ Some count
    → length more ≡ count → all ≡ q ++ more → limit ≡ Some (length all)
IsLeft-none None None q more all count first is same joins = cc
IsLeft-none None (Some left) q more all count first is same joins = absurd first
IsLeft-none (Some limit) None q more all count first is same joins = absurd first
IsLeft-none (Some limit) (Some left) q more all count first is same joins =
    let this : left ≡ count = cc in
    let total : limit ≡ length all = omega (arith, ap length joins ∙ length-append q more, first, this, same) in
    ap Some total

-- if something may be left of a limit, it was not passed
pub IsLeft-within : (limit left : Option ℕ) (count : ℕ) → IsLeft limit count left → IsWithin limit count
IsLeft-within None left count first = tt
IsLeft-within (Some limit) None count first = absurd first
IsLeft-within (Some limit) (Some left) count first = omega (arith, first)

-- without a limit a stream ends if the reader does
pub ends_alone : (r : Option (List ℕ)) (count : ℕ) → IsAtEnd r ⊎ (None ≡ Some count) → IsAtEnd r
ends_alone r count (inl end) = end
ends_alone r count (inr is) = cc

-- blocks of which there are no more than are left go within the limit
pub IsLeft-fits : (limit left : Option ℕ) (q more : List (List ℕ)) (count : ℕ) → IsLeft limit (length q) left
    → IfSome left (λ left. count ≤ left)
    → length more ≤ count → IsWithin limit (length (q ++ more))
IsLeft-fits None None q more count first enough fits = tt
IsLeft-fits None (Some left) q more count first enough fits = absurd first
IsLeft-fits (Some limit) None q more count first enough fits = absurd first
IsLeft-fits (Some limit) (Some left) q more count first enough fits = omega
    (arith, length-append q more, first, enough, fits)

-- and so does a block of which only some bytes are there, after others
pub IsLeft-begun : (limit left : Option ℕ) (done count n bytes : ℕ) → IsLeft limit done left
    → IfSome left (λ left. count ≤ left) → n < 8 * count
    → bytes ≡ 8 * done + n → IsWithin limit (bytes / 8 + 1)
IsLeft-begun None None done count n bytes first enough below total = tt
IsLeft-begun None (Some left) done count n bytes first enough below total = absurd first
IsLeft-begun (Some limit) None done count n bytes first enough below total = absurd first
IsLeft-begun (Some limit) (Some left) done count n bytes first enough below total = omega
    (arith, first, enough, below, total)
