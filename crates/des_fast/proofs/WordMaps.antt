-- Maps of words by shifts, masks and `|`, each with the mask under which its images are: if those that are joined
-- share no bit the map is linear, so that the words with one bit tell which bits it selects.
use Rattle.std.proofs.Common.{◌≡◌, ℕ, ◌*◌, ◌/◌, ◌%◌, ◌^◌, ◌<◌, List, ◌++◌, map, bit_and, bit_or, ◌∙◌, append-nil}
use Rattle.des.specs.Bits.{bits_of_word, zeros, select}
use Rattle.des.proofs.LinearWords.{IsLinear, units, IsLinear-id, IsLinear-shl, IsLinear-shr, select-from_units}
use Rattle.des.proofs.LinearUnder.{IsLinearUnder, IsLinearUnder-mask, IsLinearUnder-shl, IsLinearUnder-shr, IsLinearUnder-or}

-- a linear map of words, and the mask
pub record WordMap : Type 0 where
  pub mask : ℕ
  pub of : ℕ → ℕ
  pub is : IsLinearUnder mask of

-- the images of a linear map under a mask: of the word shifted to the left, or to the right, and of another such map
abbrev masked : ℕ → (f : ℕ → ℕ) → IsLinear f → WordMap
masked mask f linear = record { mask = mask; of = λ x. bit_and (f x) mask; is = IsLinearUnder-mask mask linear }

abbrev pub left_under : ℕ → ℕ → WordMap
left_under k mask = masked mask (λ x. x * 2 ^ k % 2 ^ 64) (IsLinear-shl k IsLinear-id)

abbrev pub right_under : ℕ → ℕ → WordMap
right_under k mask = masked mask (λ x. x / 2 ^ k) (IsLinear-shr k IsLinear-id)

abbrev pub under : ℕ → WordMap → WordMap
under mask first = masked mask first.of first.is.linear

-- such a map shifted, and its mask with it
abbrev pub left : ℕ → WordMap → WordMap
left k first = record {
  mask = first.mask * 2 ^ k % 2 ^ 64;
  of = λ x. first.of x * 2 ^ k % 2 ^ 64;
  is = IsLinearUnder-shl k first.is;
}

abbrev pub right : ℕ → WordMap → WordMap
right k first = record { mask = first.mask / 2 ^ k; of = λ x. first.of x / 2 ^ k; is = IsLinearUnder-shr k first.is }

-- what two maps make, whose masks share no bit
abbrev pub joined : (first second : WordMap) → bit_and first.mask second.mask ≡ 0 → WordMap
joined first second apart = record {
  mask = bit_or first.mask second.mask;
  of = λ x. bit_or (first.of x) (second.of x);
  is = IsLinearUnder-or first.is second.is apart;
}

-- of zero and of the words with one bit the map selects the bits at these positions
abbrev pub Selects : WordMap → List ℕ → Type 0
Selects form positions =
    map (λ u. bits_of_word (form.of u)) units ≡ map (λ u. select positions (bits_of_word u) ++ zeros 0) units

-- then it does so of each word
pub selected : (form : WordMap) (positions : List ℕ) → Selects form positions
    → (x : ℕ) → x < 2 ^ 64 → bits_of_word (form.of x) ≡ select positions (bits_of_word x)
selected form positions same x below =
    select-from_units form.of positions 0 form.is.linear same x below ∙ append-nil (select positions (bits_of_word x))
