-- The definition of Base64 in a stream computed at texts, so that a wrong order, place or count in it does not check. The
-- characters are those of RFC 4648, section 10.
use Rattle.std.proofs.Common.{◌≡◌, codes, Some, None, refl}
use Rattle.base64.proofs.OnLiterals.{base64_on_literals}
use Rattle.base64.specs.Engines.{standard}
use Rattle.des_passwords.specs.Base64Streams.{after, beginning, bytes_of, character_of}
use Rattle.des_passwords.specs.Decoding.{after_all, given_by}

-- lines of any length, with blanks at their ends, and a group that goes on in the next
base64-in_lines : bytes_of standard (codes " Zm9v \r\n\n\tYm\nF\ny\t\n") ≡ Some (codes "foobar")
unfolding base64_on_literals after character_of given_by
base64-in_lines = refl

base64-padded : bytes_of standard (codes "Zm9vYg\n==\n") ≡ Some (codes "foob")
unfolding base64_on_literals after character_of given_by
base64-padded = refl

-- a blank within a line
base64-gap : bytes_of standard (codes "Zm9v YmFy") ≡ None
unfolding base64_on_literals after character_of given_by
base64-gap = refl

-- the lines of first characters that can't stand where they do
line-of_padding : (after_all after beginning (codes "Zm9v\n\nY=Fy")).fault ≡ Some 3
unfolding after after_all
line-of_padding = refl

line-after_padding : (after_all after beginning (codes "Zg==\n\n\nZg==")).fault ≡ Some 4
unfolding after after_all
line-after_padding = refl

line-of_gap : (after_all after beginning (codes "Zm9v\r\n Zm 9v")).fault ≡ Some 2
unfolding after after_all
line-of_gap = refl

line-of_none : (after_all after beginning (codes " Zm9v \n\nYg\n==\n")).fault ≡ None
unfolding after after_all
line-of_none = refl
