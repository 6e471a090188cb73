-- The tag of all that a reader gives is that of the bytes that it had.
use Rattle.std.proofs.Common.{◌≡◌, ◌∙◌, ℕ, List, ◌++◌, Option, Some, None, IfSome, ap, append-nil, subst, sym}
use Rattle.des_commands.specs.Macs.{IsTagOfAll}

tag_of_known : (tag_of : List ℕ → List ℕ) (read_from read_to : Option (List ℕ)) (tag : List ℕ)
    → IsTagOfAll tag_of read_from read_to tag → IfSome read_from (λ bytes. tag ≡ tag_of bytes)
tag_of_known tag_of None read_to tag all = tt
tag_of_known tag_of (Some bytes) None tag (read, consumed, end, is) = absurd consumed
tag_of_known tag_of (Some bytes) (Some rest) tag (read, consumed, end, is) =
    is ∙ ap tag_of (sym (consumed ∙ ap (λ (l : List ℕ). read ++ l) end ∙ append-nil read))

pub tag_of_all : (tag_of : List ℕ → List ℕ) (known read_from read_to : Option (List ℕ)) (tag : List ℕ)
    → read_from ≡ known → IsTagOfAll tag_of read_from read_to tag → IfSome known (λ bytes. tag ≡ tag_of bytes)
tag_of_all tag_of known read_from read_to tag is all =
    subst (λ (o : Option (List ℕ)). IfSome o (λ bytes. tag ≡ tag_of bytes)) is
    (tag_of_known tag_of read_from read_to tag all)
