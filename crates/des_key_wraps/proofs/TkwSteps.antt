-- The steps of TW, one after another, and turned round.
use Rattle.std.proofs.Common.{◌≡◌, ℕ, zero, suc, ◌+◌, ◌-◌, ◌%◌, ◌<◌, ◌≤◌, List, [], ◌∷◌, ◌++◌, length, set, get_or, take, drop, bit_xor, refl, ap, ap₂, sym, ◌∙◌, arith, add-one, append_assoc, take_at, drop_at, length-append, length-drop, length-take-le}
use Rattle.std.specs.Int.{w32, to_be_bytes}
use Rattle.std.specs.List.{All}
use Rattle.std.proofs.lemmas.List.{append-nil, drop_all, drop_more, drop-set-lt, length-set, same_from_push, take_all, take_more_set, take-append-drop}
use Rattle.std.proofs.Math.Nat.{mod-add-mod, mod-eq_of_lt, mod-lt, mod_self}
use Rattle.std.proofs.lemmas.List.Elements.{All-cons, All-append, All-push, All-take, All-drop, All-from_get_or}
use Rattle.std.proofs.lemmas.Nat.{xor_lt}
use Rattle.std.specs.Simd.Lanes.{zip2}
use Rattle.std.proofs.lemmas.Simd.{get_or-zip2, length-zip2}
use Rattle.des.specs.Blocks.{IsBlock}
use Rattle.des.specs.Cbc.{xor_blocks}
use Rattle.des.specs.Relations.{IsGraphOf, TakesBlock}
use Rattle.des.specs.Laws.BlockBits.{AreBytes-bytes_high_first}
use Rattle.des.proofs.XoredBlocks.{xor_blocks-undone}
use Rattle.des_modes.specs.Streams.{Under}
use Rattle.des_key_wraps.specs.Tkw.{IsSemiblock, TkwUnder, tkw, tw_step, tw_steps, tw}

-- a step more
pub tw_steps-next : (E : List ℕ → List ℕ) (t : ℕ) (words : List (List ℕ))
    → tw_steps E (t + 1) words ≡ tw_step E (t + 1) (tw_steps E t words)
tw_steps-next E t words = rw (add-one t) refl

-- semiblocks from a place on, and then those before it
abbrev pub turned : List (List ℕ) → ℕ → List (List ℕ)
turned words i = drop i words ++ take i words

-- from the first place on all of them
pub turned-none : (words : List (List ℕ)) (i : ℕ) → i ≡ 0 → turned words i ≡ words
turned-none words i none = ap (turned words) none ∙ append-nil words

-- the place after the last is the first
turned-next : (words : List (List ℕ)) (t n : ℕ) → length words ≡ n → 1 ≤ n
    → turned words (t % n + 1) ≡ turned words ((t + 1) % n)
turned-next words t n size some = rw (← mod-add-mod t n 1) (grind (arith, mod-lt, mod-eq_of_lt, mod_self, drop_all, take_all, append-nil))

-- from the place of r on
turned-first : (words : List (List ℕ)) (i : ℕ) (r : List ℕ) → i < length words → get_or words i [] ≡ r
    → turned words i ≡ r ∷ drop (i + 1) words ++ take i words
turned-first words i r within there =
    ap (λ (xs : List (List ℕ)). xs ++ take i words) (drop_more words i [] within)
    ∙ ap (λ (x : List ℕ). x ∷ drop (i + 1) words ++ take i words) there

-- a step in place: the first semiblock a becomes b, and r at place t becomes w
pub tw_step-in_place : (E : List ℕ → List ℕ) (t n : ℕ) (a b r w : List ℕ) (words : List (List ℕ)) → length words ≡ n → 1 ≤ n
    → get_or words (t % n) [] ≡ r → xor_blocks (take 4 (E (a ++ r))) (to_be_bytes w32 (t + 1)) ≡ b → drop 4 (E (a ++ r)) ≡ w
    → tw_step E (t + 1) (a ∷ turned words (t % n)) ≡ b ∷ turned (set words (t % n) w) ((t + 1) % n)
tw_step-in_place E t n a b r w words size some there first second =
    let i : ℕ = t % n in
    let within : i < length words = omega (arith, mod-lt t some) in
    rw (turned-first words i r within there, first, second) (ap (λ (xs : List (List ℕ)). b ∷ xs)
    (append_assoc (drop (i + 1) words) (take i words) (w ∷ [])
    ∙ ap₂ ◌++◌ (sym (drop-set-lt (i + 1) words i w (omega arith))) (sym (take_more_set words i w within))
    ∙ turned-next (set words i w) t n (omega (arith, length-set words i w)) some))

-- ---- the semiblocks that the steps were made of

-- what a cipher's laws say of its two functions
pub record Undoes (E D : List ℕ → List ℕ) : Type 0 where
  pub undone : (block : List ℕ) → IsBlock block → D (E block) ≡ block
  pub is_block : (block : List ℕ) → IsBlock block → IsBlock (E block)

-- the first two of semiblocks are a block
IsBlock-joined : (a r : List ℕ) (rest : List (List ℕ)) → All IsSemiblock (a ∷ r ∷ rest) → IsBlock (a ++ r)
IsBlock-joined a r rest are =
    let is_a : IsSemiblock a = are 0 [] (omega arith) in
    let is_r : IsSemiblock r = are 1 [] (omega arith) in
    (omega (arith, length-append a r), All-append (λ byte. byte < 256) a r is_a.1 is_r.1)

-- the number of a step is a semiblock
IsSemiblock-number : (t : ℕ) → IsSemiblock (to_be_bytes w32 t)
IsSemiblock-number t = (refl, AreBytes-bytes_high_first 4 t)

-- the halves of a block
high_half : (block : List ℕ) → IsBlock block → IsSemiblock (take 4 block)
high_half block is = (length-take-le 4 block (omega (arith, is.0)), All-take (λ byte. byte < 256) 4 block is.1)

low_half : (block : List ℕ) → IsBlock block → IsSemiblock (drop 4 block)
low_half block is = (omega (arith, is.0, length-drop 4 block), All-drop (λ byte. byte < 256) 4 block is.1)

IsSemiblock-xor_blocks : (word other : List ℕ) → IsSemiblock word → IsSemiblock other → IsSemiblock (xor_blocks word other)
unfolding xor_blocks
IsSemiblock-xor_blocks word other is too = (
  length-zip2 bit_xor word other (is.0 ∙ sym too.0) ∙ is.0,
  All-from_get_or (λ byte. byte < 256) (zip2 bit_xor word other) 0 (λ k within.
      grind (
        arith,
        get_or-zip2 bit_xor word other k 0 0 0,
        length-zip2 bit_xor word other,
        xor_lt 8 (get_or word k 0) (get_or other k 0),
        is.1 k 0,
        too.1 k 0,
      )),
)

-- n semiblocks
abbrev pub AreSemiblocks : ℕ → List (List ℕ) → Type 0
AreSemiblocks n words = (length words ≡ n) × All IsSemiblock words

-- the check value
abbrev pub icv3 : List ℕ
icv3 = 0xa6 ∷ 0xa6 ∷ 0xa6 ∷ 0xa6 ∷ []

module _ {E D : List ℕ → List ℕ} (laws : Undoes E D) where
  -- steps make as many semiblocks
  tw_step-keeps : (t n : ℕ) (words : List (List ℕ)) → AreSemiblocks n words → AreSemiblocks n (tw_step E t words)
  tw_step-keeps t n (a ∷ r ∷ rest) are =
      let block : List ℕ = E (a ++ r) in
      let is : IsBlock block = laws.is_block (a ++ r) (IsBlock-joined a r rest are.1) in (
        omega (arith, length-append rest (drop 4 block ∷ [])),
        All-cons IsSemiblock _ (rest ++ drop 4 block ∷ [])
            (IsSemiblock-xor_blocks (take 4 block) (to_be_bytes w32 t) (high_half block is) (IsSemiblock-number t))
            (All-push IsSemiblock rest (drop 4 block) (All-drop IsSemiblock 2 (a ∷ r ∷ rest) are.1) (low_half block is)),
      )
  tw_step-keeps t n words are = are

  pub tw_steps-keep : (t n : ℕ) (words : List (List ℕ)) → AreSemiblocks n words → AreSemiblocks n (tw_steps E t words)
  tw_steps-keep zero n words are = are
  tw_steps-keep (suc t) n words are = tw_step-keeps (suc t) n (tw_steps E t words) (tw_steps-keep t n words are)

  -- by an encryption that encrypts blocks alike
  module _ {F : List ℕ → List ℕ} (alike : (block : List ℕ) → IsBlock block → F block ≡ E block) where
    tw_step-alike : (t : ℕ) (words : List (List ℕ)) → All IsSemiblock words → tw_step F t words ≡ tw_step E t words
    tw_step-alike t (a ∷ r ∷ rest) are = rw (alike (a ++ r) (IsBlock-joined a r rest are)) refl
    tw_step-alike t words are = refl

    pub tw_steps-alike : (t : ℕ) (words : List (List ℕ)) → All IsSemiblock words → tw_steps F t words ≡ tw_steps E t words
    tw_steps-alike zero words are = refl
    tw_steps-alike (suc t) words are =
        ap (tw_step F (suc t)) (tw_steps-alike t words are) ∙ tw_step-alike (suc t) _ (tw_steps-keep t _ words (refl, are)).1

  -- semiblocks of which a step makes what it makes of b and s are these
  pub tw_step-one : (t n i : ℕ) (words others : List (List ℕ)) (b s : List ℕ) → AreSemiblocks n words → 2 ≤ n
      → i < length others → get_or others i [] ≡ s → length b ≡ 4 → length s ≡ 4 → IsBlock (b ++ s)
      → tw_step E t words ≡ tw_step E t (b ∷ turned others i) → words ≡ b ∷ turned others i
  tw_step-one t n i (a ∷ r ∷ words) others b s are more within there is_b is_s other same =
      let turn = turned-first others i s within there in
      let block = IsBlock-joined a r words are.1 in
      let e : List ℕ = E (a ++ r) in
      let f : List ℕ = E (b ++ s) in
      let made = same ∙ ap (λ (xs : List (List ℕ)). tw_step E t (b ∷ xs)) turn in
      let rest = same_from_push words (drop (i + 1) others ++ take i others) (drop 4 e) (drop 4 f) (ap (drop 1) made) in
      let undone = λ (x : List ℕ) (is : IsBlock x).
      xor_blocks-undone (take 4 (E x)) (to_be_bytes w32 t) (high_half (E x) (laws.is_block x is)).0 in
      let high : take 4 e ≡ take 4 f = cc (made, undone (a ++ r) block, undone (b ++ s) other) in
      let answers : e ≡ f = cc (high, rest.1, take-append-drop 4 e, take-append-drop 4 f) in
      let joined : a ++ r ≡ b ++ s = cc (answers, laws.undone (a ++ r) block, laws.undone (b ++ s) other) in
      let is_a : length a ≡ 4 = (are.1 0 [] (omega arith)).0 in
      cc (turn, rest.0, joined, take_at a r 4 is_a, take_at b s 4 is_b, drop_at a r 4 is_a, drop_at b s 4 is_b)
  tw_step-one t n i words others b s are more within there is_b is_s other same = absurd (omega (arith, are.0))

-- what wraps a key wraps no other, and has its check value
pub unwrapped-one : {Encrypts : List ℕ → List ℕ → Type 0} {first : List ℕ} {words other wrapped : List (List ℕ)}
    {rest : List (List ℕ)} → ((start : List (List ℕ)) → All IsSemiblock start
    → Under Encrypts (λ encryption. tw encryption start ≡ get_or wrapped 0 [] ∷ rest) → start ≡ first ∷ words)
    → All IsSemiblock other → 1 ≤ length wrapped → rest ≡ take (length wrapped - 1) (drop 1 wrapped)
    → TkwUnder Encrypts other wrapped → (first ≡ icv3) × (words ≡ other)
unwrapped-one {wrapped = []} only too some behind under = absurd (omega arith)
unwrapped-one {first = first} {words = words} {other = other} {wrapped = a ∷ wrapped} only too some behind under =
    let same : icv3 ∷ other ≡ first ∷ words =
    only (icv3 ∷ other) (All-cons IsSemiblock icv3 other (IsSemiblock-number 0xa6a6a6a6) too) (record {
      encryption = under.encryption;
      encrypts = under.encrypts;
      made = under.made ∙ ap (λ (xs : List (List ℕ)). a ∷ xs) (sym (behind ∙ take_all (length (a ∷ wrapped) - 1) wrapped (omega arith)));
    }) in
    (sym (ap (λ (xs : List (List ℕ)). get_or xs 0 []) same), sym (ap (drop 1) same))

-- ---- by a relation of which the encryption is the graph

module _ {Encrypts : List ℕ → List ℕ → Type 0} {E : List ℕ → List ℕ} (graph : IsGraphOf E Encrypts)
    (key wrapped : List (List ℕ)) where
  pub TkwUnder-graph : tkw E key ≡ wrapped → TkwUnder Encrypts key wrapped
  TkwUnder-graph made = record { encryption = E; encrypts = λ block is. (graph block (E block)).1 (is, refl); made = made }

  pub TkwUnder-from_graph : TkwUnder Encrypts key wrapped → TkwUnder (TakesBlock E) key wrapped
  TkwUnder-from_graph under = record {
    encryption = under.encryption;
    encrypts = λ block is. (graph block (under.encryption block)).0 (under.encrypts block is);
    made = under.made;
  }
