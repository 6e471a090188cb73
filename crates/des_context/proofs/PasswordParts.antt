-- What is encrypted under a password: key, vector and ciphertext are determined, and if they are, there is no fault.
use Rattle.std.proofs.Common.{◌≡◌, inl, inr, ℕ, ◌+◌, List, ◌++◌, length, take, drop, Option, sym, ap, ap₂, ◌∙◌, subst, arith, take_at, drop_at, length-append}
use Rattle.std.specs.Prelude.{ℤ}
use Rattle.std.proofs.lemmas.Option.{same_Some}
use Rattle.des_context.specs.CipherTypes.{relation_of}
use Rattle.des_context.specs.Salted.{HoldsPlain, IsOpened, IsOpeningFault, IsPartsFault, IsSaltedFault, IsUnder, Opens}
use Rattle.des_passwords.specs.Derivations.{derived, IsDerivable, HasNoIteration}
use Rattle.des_passwords.specs.declared.derivation.Derivation.{Derivation}
use Rattle.des_passwords.specs.declared.derivation.Derivation.TheVariants.{Md5, Sha1, Sha256, Pbkdf2Sha1, Pbkdf2Sha256}

-- what can be derived has an iteration
iterated : (by : Derivation) (length : ℕ) → IsDerivable by length → HasNoIteration by → ⊥
iterated Md5 length is none = none
iterated Sha1 length is none = none
iterated Sha256 length is none = none
iterated (Pbkdf2Sha1 count) length is none = is.0 none
iterated (Pbkdf2Sha256 count) length is none = is.0 none

parts-once : (n : ℕ) (first second third fourth : List ℕ) → length first ≡ n → length third ≡ n
    → first ++ second ≡ third ++ fourth → (first ≡ third) × (second ≡ fourth)
parts-once n first second third fourth long as_long same = (
  sym (take_at first second n long) ∙ ap (take n) same ∙ take_at third fourth n as_long,
  sym (drop_at first second n long) ∙ ap (drop n) same ∙ drop_at third fourth n as_long,
)

module _ {size : ℕ} {derivation : Option Derivation} {password bytes key vector encrypted : List ℕ}
    (under : IsUnder size derivation password bytes key vector encrypted) where
  -- if there is a key, there is no fault
  pub under-no-fault : (status : ℤ) → IsPartsFault derivation bytes status → ⊥
  under-no-fault status fault =
      let is = under.is_salted in
      let long = ap length is.0 in
      elim (subst (λ d. IsPartsFault d bytes status) under.is_by fault) [
        | inl not_salted ↦ not_salted.1 (ap (take 8) is.0)
        | inr (inl cut) ↦ absurd (omega (arith, cut.2, long, length-append under.salt encrypted, is.1))
        | inr (inr none) ↦ iterated under.by (size + 8) under.derivable none.3
      ]

  -- there is no other
  once : {k v e : List ℕ} → IsUnder size derivation password bytes k v e → (key ≡ k) × (vector ≡ v) × (encrypted ≡ e)
  once {k} {v} {e} other =
      let by = same_Some under.by other.by (sym under.is_by ∙ other.is_by) in
      let salt = parts-once 8 under.salt encrypted other.salt e under.is_salted.1 other.is_salted.1
      (ap (drop 8) (sym under.is_salted.0 ∙ other.is_salted.0)) in
      let parts = parts-once size key vector k v under.size_of_key other.size_of_key
      (under.derives ∙ ap₂ (λ by salt. derived by password salt (size + 8)) by salt.0 ∙ sym other.derives) in
      (parts.0, parts.1, salt.1)

  -- so what is opened under it is what the bytes hold
  opened-plain : (plain : List ℕ) → HoldsPlain size derivation password bytes plain
      → IsOpened (relation_of key) vector encrypted plain
  opened-plain plain holds = let same = once holds.under in rw (same.0, same.1, same.2) holds.opened

  pub Opens-salted : {old new : List ℕ} {old_size new_size : ℕ} {status : ℤ}
      → Opens (IsOpened (relation_of key) vector encrypted)
      (IsOpeningFault (relation_of key) vector encrypted (length old)) old new old_size new_size status
      → Opens (HoldsPlain size derivation password bytes)
      (IsSaltedFault size derivation password bytes (length old)) old new old_size new_size status
  Opens-salted opens = record {
    opened = λ done.
        let plain = opens.opened done in
        let holds : HoldsPlain size derivation password bytes plain.0 =
        record { key = key; vector = vector; encrypted = encrypted; under = under; opened = plain.1.0 } in
        (plain.0, (holds, λ other is. plain.1.1 other (opened-plain other is)), plain.2, plain.3);
    refused = λ failed.
        let refused = opens.refused failed in (
          inr (key, (vector, (encrypted, (under, refused.0)))),
          λ plain holds. refused.1 plain (opened-plain plain holds),
          refused.2,
          refused.3,
        );
  }
