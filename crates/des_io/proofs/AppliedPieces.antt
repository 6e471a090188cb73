-- Bytes that go through a stream cipher, piece after piece.
use Rattle.std.proofs.Common.{◌≡◌, ℕ, ◌+◌, ◌≤◌, List, [], ◌++◌, Option, length, take, drop, refl, subst, arith, append_assoc, append-nil, take-append-drop, take_all, length-append}
use Rattle.std.specs.Io.KnownBytes.{Consumes, Appends}
use Rattle.std.proofs.KnownBytes.{Consumes-trans, Appends-trans, Consumes-nil, Appends-nil}
use Rattle.des_io.specs.Streams.{Passage, passage_of}
use Rattle.des_io.specs.StreamCiphers.{Becomes, AppliesPrefix}
use Rattle.des_modes.specs.declared.direction.Direction.{Direction}
use Rattle.des_modes.specs.declared.direction.Direction.TheVariants.{Encrypt, Decrypt}
use Rattle.des_modes.specs.declared.stream.Stream.{Stream}

pub Becomes-append : {E : List ℕ → List ℕ} {direction : Direction} {stream next last : Stream} {from to more outputs : List ℕ}
    → Becomes E direction stream from to next → Becomes E direction next more outputs last
    → Becomes E direction stream (from ++ more) (to ++ outputs) last
Becomes-append {direction = Encrypt} {from = from} {to} {more} {outputs} first second = record {
  goes_on = λ number iv p c at.
      rw (← append_assoc p from more, ← append_assoc c to outputs)
      (second.goes_on number iv (p ++ from) (c ++ to) (first.goes_on number iv p c at));
}
Becomes-append {direction = Decrypt} {from = from} {to} {more} {outputs} first second = record {
  goes_on = λ number iv p c at.
      rw (← append_assoc p to outputs, ← append_assoc c from more)
      (second.goes_on number iv (p ++ to) (c ++ from) (first.goes_on number iv p c at));
}

pub Becomes-none : (E : List ℕ → List ℕ) (direction : Direction) (stream : Stream) → Becomes E direction stream [] [] stream
Becomes-none E Encrypt stream = record { goes_on = λ number iv p c at. simp append-nil at }
Becomes-none E Decrypt stream = record { goes_on = λ number iv p c at. simp append-nil at }

-- `count` bytes were read, and what they become was written
pub record AppliesAll (encryption : List ℕ → List ℕ) (direction : Direction) (stream next : Stream) (count : ℕ) (passage : Passage)
    : Type 0 where
  pub from : List ℕ
  pub to : List ℕ
  pub read : Consumes passage.read_from passage.read_to from
  pub became : Becomes encryption direction stream from to next
  pub written : Appends passage.written_from passage.written_to to
  pub size : length from ≡ count

pub AppliesAll-none : (E : List ℕ → List ℕ) (direction : Direction) (stream : Stream) (r u : Option (List ℕ))
    → AppliesAll E direction stream stream 0 (passage_of r r u u)
AppliesAll-none E direction stream r u = record {
  from = [];
  to = [];
  read = Consumes-nil r;
  became = Becomes-none E direction stream;
  written = Appends-nil u;
  size = refl;
}

-- n bytes more
pub AppliesAll-more : {E : List ℕ → List ℕ} {direction : Direction} {stream next : Stream} {count : ℕ} {r s t u v w : Option (List ℕ)}
    (bytes outputs : List ℕ) (last : Stream) (n k : ℕ) → AppliesAll E direction stream next count (passage_of r s u v)
    → Consumes s t bytes → length bytes ≡ n → Becomes E direction next bytes outputs last → Appends v w (take k outputs)
    → k ≡ length outputs → AppliesAll E direction stream last (count + n) (passage_of r t u w)
AppliesAll-more {r = r} {s} {t} {u} {v} {w} bytes outputs last n k so_far read size became written all = record {
  from = so_far.from ++ bytes;
  to = so_far.to ++ outputs;
  read = Consumes-trans r s t _ _ so_far.read read;
  became = Becomes-append so_far.became became;
  written = Appends-trans u v w _ _ so_far.written (subst (Appends v w) (take_all k outputs (omega (arith, all))) written);
  size = omega (arith, length-append so_far.from bytes, so_far.size, size);
}

-- after a piece that was written, perhaps not the whole of it, and bytes that were read behind it
abbrev pub AppliesPrefix-more : {E : List ℕ → List ℕ} {direction : Direction} {stream next last : Stream} {count limit : ℕ}
    {r s t u v w : Option (List ℕ)} {outputs : List ℕ} (bytes rest : List ℕ) (k : ℕ)
    → AppliesAll E direction stream next count (passage_of r s u v) → Consumes s t (bytes ++ rest) → Becomes E direction next bytes outputs last
    → Appends v w (take k outputs) → count + length bytes ≤ limit → AppliesPrefix E direction stream limit (passage_of r t u w)
AppliesPrefix-more {last = last} {r = r} {s} {t} {u} {v} {w} {outputs} bytes rest k so_far read became written within = record {
  from = so_far.from ++ bytes;
  rest = rest;
  put = so_far.to ++ take k outputs;
  missing = drop k outputs;
  next = last;
  read = rw append_assoc (Consumes-trans r s t _ _ so_far.read read);
  became = rw (append_assoc, take-append-drop) (Becomes-append so_far.became became);
  written = Appends-trans u v w _ _ so_far.written written;
  within = omega (arith, length-append so_far.from bytes, so_far.size, within);
}

-- after bytes that were read alone
abbrev pub AppliesPrefix-read : {E : List ℕ → List ℕ} {direction : Direction} {stream next : Stream} {count limit : ℕ}
    {r s t u v : Option (List ℕ)} (bytes : List ℕ) → AppliesAll E direction stream next count (passage_of r s u v)
    → Consumes s t bytes → count ≤ limit → AppliesPrefix E direction stream limit (passage_of r t u v)
AppliesPrefix-read {v = v} bytes so_far read within =
    AppliesPrefix-more [] bytes 0 so_far read (Becomes-none _ _ _) (Appends-nil v) (omega arith)
