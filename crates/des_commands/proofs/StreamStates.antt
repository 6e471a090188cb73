-- Where a stream stands after the blocks before a part.
use Rattle.std.proofs.Common.{◌≡◌, ℕ, ◌-◌, min, List, Option}
use Rattle.des_io.specs.Streams.{Skips}
use Rattle.des_io.specs.declared.mode.BlockMode.{BlockMode}
use Rattle.des_modes.specs.declared.stream.Stream.{Stream}
use Rattle.des_requests.specs.declared.streams.BlockRange.{BlockRange}
use Rattle.des_requests.specs.declared.streams.Job.{Job}
use Rattle.des_requests.specs.declared.streams.StreamMode.{StreamMode}
use Rattle.des_requests.specs.StreamRequests.{from_of}
use Rattle.des_commands.specs.Jobs.{vector_of, Begins, Reaches}

pub Reaches-skipped : (mode : StreamMode) (job : Job) (skipped vectors from : ℕ) (part : Option BlockRange)
    (r middle begun : Option (List ℕ)) (first last : BlockMode) (vector before : List ℕ) (stream : Stream)
    → vectors ≡ min skipped job.vectors → from ≡ from_of part → vector ≡ vector_of first → before ≡ vector_of last
    → Skips job.begin first vectors r middle → Skips first last (skipped - vectors) middle begun
    → Begins mode vector before from stream → Reaches mode job skipped part r begun stream
Reaches-skipped mode job skipped vectors from part r middle begun first last vector before stream count place is was passed
    others begins = record {
      first = first;
      last = last;
      middle = middle;
      vector = rw count at passed;
      others = rw count at others;
      begins = rw (is, was, place) at begins;
    }
