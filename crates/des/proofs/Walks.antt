-- Walks along links between positions: a value that is the same at both ends of each link is the same all along a walk.
use Rattle.std.proofs.Common.{◌≡◌, ℕ, ◌==◌, ◌&&◌, ◌||◌, List, [], ◌∷◌, Bool, true, false, map, refl, sym, ap, ap₂, ◌∙◌, arith, inl, inr}
use Rattle.std.specs.List.{All, zip, list_all, list_any}
use Rattle.std.proofs.lemmas.List.Elements.{All-nil, All-cons, All-head, All-tail}
use Rattle.std.proofs.lemmas.Bool.Decides.{nat_tests}
use Rattle.std.proofs.lemmas.Bool.{eqb-true, and_parts, or_cases}
use Rattle.des.proofs.Places.{is_among}

-- a link: a pair of positions
abbrev pub Link : Type 0
Link = ℕ × ℕ

-- the value is the same at both ends of each link
abbrev pub IsSameAlong : (ℕ → Bool) → List Link → Type 0
IsSameAlong value links = All (λ link. value link.0 ≡ value link.1) links

-- whether a link is between two positions, in either order
abbrev joins : ℕ → ℕ → Link → Bool
joins here there link = ((link.0 == here) && (link.1 == there)) || ((link.0 == there) && (link.1 == here))

-- whether each position of a walk is linked to the next
abbrev is_walk : List Link → List ℕ → Bool
is_walk links [] = true
is_walk links (here ∷ []) = true
is_walk links (here ∷ there ∷ walk) = list_any (joins here there) links && is_walk links (there ∷ walk)

-- whether two lists of positions have, place by place, two positions of one walk
abbrev pub share_walks : List (List ℕ) → List ℕ → List ℕ → Bool
share_walks walks [] [] = true
share_walks walks (here ∷ heres) (there ∷ theres) =
    list_any (λ walk. is_among walk here && is_among walk there) walks && share_walks walks heres theres
share_walks walks heres theres = false

-- if values of two lists of positions are equal, so are those at the ends of the links from the one list to the
-- other
pub IsSameAlong-zip : (value : ℕ → Bool) (heres theres : List ℕ) → map value heres ≡ map value theres
    → IsSameAlong value (zip heres theres)
IsSameAlong-zip value [] theres same = All-nil (λ link. value link.0 ≡ value link.1)
IsSameAlong-zip value (here ∷ heres) [] same = All-nil (λ link. value link.0 ≡ value link.1)
IsSameAlong-zip value (here ∷ heres) (there ∷ theres) same =
    let first : value here ≡ value there = cc in
    let rest : map value heres ≡ map value theres = cc in
    All-cons (λ link. value link.0 ≡ value link.1) (here, there) (zip heres theres) first
    (IsSameAlong-zip value heres theres rest)

-- a link between two positions makes their values equal
value_at_link : (value : ℕ → Bool) (here there : ℕ) (link : Link) → value link.0 ≡ value link.1
    → joins here there link ≡ true → value here ≡ value there
value_at_link value here there link same joined = grind (arith, nat_tests)

-- and so does one among links
value_at_links : (value : ℕ → Bool) (here there : ℕ) (links : List Link) → IsSameAlong value links
    → list_any (joins here there) links ≡ true → value here ≡ value there
value_at_links value here there [] same joined = absurd (cc)
value_at_links value here there (link ∷ links) same joined = elim (or_cases _ _ joined) [
  | inl first ↦ value_at_link value here there link (All-head (λ l. value l.0 ≡ value l.1) link links same) first
  | inr later ↦ value_at_links value here there links (All-tail (λ l. value l.0 ≡ value l.1) link links same) later
]

-- each position of a walk has the value of the first
value_on_walk : (value : ℕ → Bool) (links : List Link) (here : ℕ) (walk : List ℕ) (position : ℕ)
    → IsSameAlong value links
    → is_walk links (here ∷ walk) ≡ true → is_among (here ∷ walk) position ≡ true → value position ≡ value here
value_on_walk value links here [] position same walked among = elim (or_cases _ _ among) [
  | inl first ↦ ap value (sym (eqb-true here position first))
  | inr later ↦ absurd (cc)
]
value_on_walk value links here (there ∷ walk) position same walked among = elim (or_cases _ _ among) [
  | inl first ↦ ap value (sym (eqb-true here position first))
  | inr later ↦
      let parts = and_parts _ _ walked in
      value_on_walk value links there walk position same parts.1 later
      ∙ sym (value_at_links value here there links same parts.0)
]

-- a value that is the same at both ends of each link is the same at all positions of a walk
walk_same : (value : ℕ → Bool) (links : List Link) (walk : List ℕ) → IsSameAlong value links → is_walk links walk ≡ true
    → (here there : ℕ) → is_among walk here ≡ true → is_among walk there ≡ true → value here ≡ value there
walk_same value links [] same walked here there among_here among_there = absurd (cc)
walk_same value links (first ∷ walk) same walked here there among_here among_there =
    value_on_walk value links first walk here same walked among_here
    ∙ sym (value_on_walk value links first walk there same walked among_there)

-- it is the same at two positions that one of some walks passes
one_walk_same : (value : ℕ → Bool) (links : List Link) (walks : List (List ℕ)) → IsSameAlong value links
    → list_all (is_walk links) walks ≡ true → (here there : ℕ)
    → list_any (λ walk. is_among walk here && is_among walk there) walks ≡ true → value here ≡ value there
one_walk_same value links [] same walked here there shared = absurd (cc)
one_walk_same value links (walk ∷ walks) same walked here there shared =
    let walks_here = and_parts _ _ walked in elim (or_cases _ _ shared) [
      | inl first ↦
          let among = and_parts _ _ first in
          walk_same value links walk same walks_here.0 here there among.0 among.1
      | inr later ↦ one_walk_same value links walks same walks_here.1 here there later
    ]

-- two lists of positions that share walks, place by place, have the same values
pub walks_same : (value : ℕ → Bool) (links : List Link) (walks : List (List ℕ)) → IsSameAlong value links
    → list_all (is_walk links) walks ≡ true → (heres theres : List ℕ) → share_walks walks heres theres ≡ true
    → map value heres ≡ map value theres
walks_same value links walks same walked [] [] shared = refl
walks_same value links walks same walked (here ∷ heres) (there ∷ theres) shared =
    let parts = and_parts _ _ shared in
    ap₂ ◌∷◌ (one_walk_same value links walks same walked here there parts.0)
    (walks_same value links walks same walked heres theres parts.1)
walks_same value links walks same walked heres theres shared = absurd (cc)
