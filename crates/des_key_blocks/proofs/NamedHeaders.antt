-- Headers of one text whose fields have their names are one.
use Rattle.std.proofs.Common.{◌≡◌, ◌⊎◌, inl, inr, ℕ, Bool, List, [], ◌∷◌, ◌++◌, length, take, drop, get_or, refl, sym, ap, ◌∙◌, arith}
use Rattle.std.specs.Prelude.{IsTrue}
use Rattle.std.proofs.lemmas.List.{length-append, take_at, drop_at}
use Rattle.des_key_blocks.specs.KeyBlockHeaders.{usage_text, algorithm_text, mode_text, exportability_text, is_named_usage, is_named_algorithm, is_named_mode, is_named_rule, IsHeader, IsNamed}
use Rattle.des_key_blocks.specs.KeyBlockReading.{AreAlike}
use Rattle.des_key_blocks.specs.declared.key_block_header.Header.{Header}
use Rattle.des_key_blocks.specs.declared.key_block_header.Version.{Version}
use Rattle.des_key_blocks.specs.declared.key_block_header.Usage.{Usage}
use Rattle.des_key_blocks.specs.declared.key_block_header.Usage.TheVariants.{OtherUsage}
use Rattle.des_key_blocks.specs.declared.key_block_header.Algorithm.{Algorithm}
use Rattle.des_key_blocks.specs.declared.key_block_header.Algorithm.TheVariants.{OtherAlgorithm}
use Rattle.des_key_blocks.specs.declared.key_block_header.ModeOfUse.{ModeOfUse}
use Rattle.des_key_blocks.specs.declared.key_block_header.ModeOfUse.TheVariants.{OtherMode}
use Rattle.des_key_blocks.specs.declared.key_block_header.Exportability.{Exportability}
use Rattle.des_key_blocks.specs.declared.key_block_header.Exportability.TheVariants.{OtherRule}

-- ---- fields of one text

-- two names of one text are one: each is known by its text, or holds it
module _ (Name Text : Type 0) (text_of : Name → Text) (other : Text → Name) (is_named : Name → Bool) where
  abbrev Has : Name → Type 0
  Has name = (known : Name) → IsTrue (is_named known) → text_of known ≡ text_of name → name ≡ known

  abbrev IsEither : Name → Type 0
  IsEither name = IsTrue (is_named name) ⊎ (name ≡ other (text_of name))

  one-name : (x y : Name) → IsEither x → IsEither y → Has x → Has y → text_of x ≡ text_of y → x ≡ y
  one-name x y (inl known) either has_x has_y is = sym (has_y x known is)
  one-name x y (inr holds) (inl known) has_x has_y is = has_x y known (sym is)
  one-name x y (inr holds) (inr holds_too) has_x has_y is = holds ∙ ap other is ∙ sym holds_too

usage-either : (usage : Usage) → IsTrue (is_named_usage usage) ⊎ (usage ≡ OtherUsage (usage_text usage))
usage-either (OtherUsage text) = inr refl
usage-either usage = inl refl

algorithm-either : (algorithm : Algorithm)
    → IsTrue (is_named_algorithm algorithm) ⊎ (algorithm ≡ OtherAlgorithm (algorithm_text algorithm))
algorithm-either (OtherAlgorithm character) = inr refl
algorithm-either algorithm = inl refl

mode-either : (mode : ModeOfUse) → IsTrue (is_named_mode mode) ⊎ (mode ≡ OtherMode (mode_text mode))
mode-either (OtherMode character) = inr refl
mode-either mode = inl refl

rule-either : (rule : Exportability) → IsTrue (is_named_rule rule) ⊎ (rule ≡ OtherRule (exportability_text rule))
rule-either (OtherRule character) = inr refl
rule-either rule = inl refl

-- ---- the texts of the fields, one after another

pub record AreFields (u v : List ℕ) (a b m n : ℕ) (x y : List ℕ) (e f : ℕ) : Type 0 where
  pub first : u ≡ v
  pub second : a ≡ b
  pub third : m ≡ n
  pub fourth : x ≡ y
  pub fifth : e ≡ f

parted : (n : ℕ) (xs ys zs ws : List ℕ) → length xs ≡ n → length zs ≡ n → xs ++ ys ≡ zs ++ ws
    → (xs ≡ zs) × (ys ≡ ws)
parted n xs ys zs ws first second same = (
  sym (take_at xs ys n first) ∙ ap (take n) same ∙ take_at zs ws n second,
  sym (drop_at xs ys n first) ∙ ap (drop n) same ∙ drop_at zs ws n second,
)

four : (u : List ℕ) (a m : ℕ) → length u ≡ 2 → length (u ++ a ∷ m ∷ []) ≡ 4
four u a m two = omega (arith, length-append u (a ∷ m ∷ []))

six : (u : List ℕ) (a m : ℕ) (x : List ℕ) → length u ≡ 2 → length x ≡ 2 → length (u ++ a ∷ m ∷ [] ++ x) ≡ 6
six u a m x two two_x = omega (arith, length-append (u ++ a ∷ m ∷ []) x, four u a m two)

fields-same : (u v : List ℕ) (a b m n : ℕ) (x y : List ℕ) (e f : ℕ) → length u ≡ 2 → length v ≡ 2 → length x ≡ 2
    → length y ≡ 2 → u ++ a ∷ m ∷ [] ++ x ++ e ∷ [] ≡ v ++ b ∷ n ∷ [] ++ y ++ f ∷ []
    → AreFields u v a b m n x y e f
fields-same u v a b m n x y e f two_u two_v two_x two_y same =
    let outer = parted 6 (u ++ a ∷ m ∷ [] ++ x) (e ∷ []) (v ++ b ∷ n ∷ [] ++ y) (f ∷ []) (six u a m x two_u two_x)
    (six v b n y two_v two_y) same in
    let middle = parted 4 (u ++ a ∷ m ∷ []) x (v ++ b ∷ n ∷ []) y (four u a m two_u) (four v b n two_v) outer.0 in
    let inner = parted 2 u (a ∷ m ∷ []) v (b ∷ n ∷ []) two_u two_v middle.0 in
    record {
      first = inner.0;
      second = ap (λ (text : List ℕ). get_or text 0 0) inner.1;
      third = ap (λ (text : List ℕ). get_or text 1 0) inner.1;
      fourth = middle.1;
      fifth = ap (λ (text : List ℕ). get_or text 0 0) outer.1;
    }

-- ---- headers

of-fields : Version → Usage → Algorithm → ModeOfUse → List ℕ → Exportability → Header
of-fields version usage algorithm mode key_version rule = record {
  version = version;
  usage = usage;
  algorithm = algorithm;
  mode = mode;
  key_version = key_version;
  exportability = rule;
}

of-fields-same : (v v' : Version) (u u' : Usage) (a a' : Algorithm) (m m' : ModeOfUse) (k k' : List ℕ)
    (r r' : Exportability) → v ≡ v' → u ≡ u' → a ≡ a' → m ≡ m' → k ≡ k' → r ≡ r'
    → of-fields v u a m k r ≡ of-fields v' u' a' m' k' r'
of-fields-same v v' u u' a a' m m' k k' r r' vv uu aa mm kk rr = cc

pub named-same : (h k : Header) → IsHeader h → IsHeader k → IsNamed h → IsNamed k → AreAlike h k → h ≡ k
unfolding of-fields
named-same h k is_h is_k named_h named_k alike =
    let same = fields-same (usage_text h.usage) (usage_text k.usage) (algorithm_text h.algorithm)
    (algorithm_text k.algorithm) (mode_text h.mode) (mode_text k.mode) h.key_version k.key_version
    (exportability_text h.exportability) (exportability_text k.exportability) is_h.0 is_k.0 is_h.1 is_k.1 alike.1 in
    of-fields-same h.version k.version h.usage k.usage h.algorithm k.algorithm h.mode k.mode h.key_version k.key_version
    h.exportability k.exportability alike.0
    (one-name _ _ usage_text OtherUsage is_named_usage _ _ (usage-either h.usage) (usage-either k.usage) named_h.usage
    named_k.usage same.first)
    (one-name _ _ algorithm_text OtherAlgorithm is_named_algorithm _ _ (algorithm-either h.algorithm)
    (algorithm-either k.algorithm) named_h.algorithm named_k.algorithm same.second)
    (one-name _ _ mode_text OtherMode is_named_mode _ _ (mode-either h.mode) (mode-either k.mode) named_h.mode
    named_k.mode same.third)
    same.fourth
    (one-name _ _ exportability_text OtherRule is_named_rule _ _ (rule-either h.exportability)
    (rule-either k.exportability) named_h.exportability named_k.exportability same.fifth)
