-- Tags that are shown or verified, and the answer no.
use Rattle.std.specs.Prelude.{ℕ, ◌%◌, ◌&&◌, ◌||◌, ◌==◌, nat_lt, Bool, not, if◌then◌else◌, List, length, Option, Some}
use Rattle.des_lines.specs.declared.fault.FaultKind.{FaultKind}
use Rattle.des_lines.specs.declared.fault.FaultKind.TheVariants.{Tag}
use Rattle.des_lines.specs.Texts.{text_fault}

-- the status of a program that was to write a result: 1 if the whole of it is written and the
-- answer is no
abbrev pub status_after : ℕ → Bool → ℕ
status_after written is_no = if (written == 0) && is_no then 1 else written

-- the fault of a tag's digits, if they have one: there are two for each of 4 to 8 bytes
abbrev pub tag_fault : List ℕ → Option FaultKind
tag_fault digits =
    if nat_lt (length digits) 8 || (nat_lt 16 (length digits) || not (length digits % 2 == 0)) then Some Tag
    else text_fault Tag digits
