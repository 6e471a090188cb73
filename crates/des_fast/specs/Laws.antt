-- Lemmas that the laws of the cipher traits stand on. They stand here and not in proofs/, since the
-- proof of a law may cite nothing but specs/.
pub mod DesLaws
