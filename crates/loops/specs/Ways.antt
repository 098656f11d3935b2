-- How far the fast path alone brings a replay: over the records that the hot part and the buffer settle, up to the first other one.
use Rattle.std.specs.Prelude.{ℕ, zero, suc, ◌+◌, ◌-◌, ◌*◌, ◌≤◌, ◌≡◌, List, length, drop, Option, Some, None, Result, Ok, Err}
use Rattle.std.proofs.lemmas.List.Edits.{sets}
use Rattle.face.specs.Reads.{number_of, value_of}
use Rattle.face.specs.declared.Hot.{Hot}
use Rattle.face.specs.declared.Shows.{Shows}
use Rattle.fastpath.specs.Dev.{quick_alone, quick_alone_buffer}
use Rattle.records.specs.Records.{next_of}
use Rattle.records.specs.Replies.{reply_bytes}
use Rattle.records.specs.declared.Record.{Record}
use Rattle.records.specs.declared.NoRecord.{NoRecord}
use Rattle.loops.specs.declared.Stand.{Stand}

-- where a loop over the hot part stands
abbrev pub stand_at : Hot → ℕ → ℕ → ℕ → Stand
stand_at h at put left = record { hot = h; at = at; put = put; left = left }

-- the next record's place is in the recording, and its reply and those that fit behind it are in the lent one
pub record Stands (l out : List ℕ) (s : Stand) : Type 0 where
  pub below : s.at ≤ length l
  pub room : s.put + 5 * (s.left + 1) ≤ length out

-- where it stands, with the buffer and the lent reply
pub record Way : Type 0 where
  pub stand : Stand
  pub buffer : List ℕ
  pub out : List ℕ

-- a way of these parts
abbrev pub way_at : Stand → List ℕ → List ℕ → Way
way_at s b out = record { stand = s; buffer = b; out = out }

-- "per record length 0003h, answer, two-byte value"
abbrev pub settled_reply : Shows Hot → List ℕ
settled_reply s = reply_bytes (number_of s.answer) (value_of s.answer s.value)

-- the way behind a record of `size` bytes that was settled so, with the buffer that it left
abbrev pub way_behind : Way → ℕ → List ℕ → Shows Hot → Way
way_behind w size b s =
    way_at (stand_at s.left (w.stand.at + size) (w.stand.put + 5) (w.stand.left - 1)) b (sets w.out w.stand.put (settled_reply s))

-- a record that the fast path settles is replied to; at one that needs the long way it stops
unfoldable pub swift_quick : (Way → Way) → Way → ℕ → List ℕ → Option (Shows Hot) → Way
swift_quick rest w size b (Some s) = rest (way_behind w size b s)
swift_quick rest w size b None = w

-- by what the bytes start with: where no whole record is there it stops
unfoldable pub swift_as : (Way → Way) → Way → Result Record NoRecord → Way
swift_as rest w (Ok r) = swift_quick rest w r.size (quick_alone_buffer w.stand.hot w.buffer r.action) (quick_alone w.stand.hot w.buffer r.action)
swift_as rest w (Err e) = w

-- n records at the most
unfoldable pub swift_of : ℕ → List ℕ → Way → Way
swift_of zero l w = w
swift_of (suc n) l w = swift_as (swift_of n l) w (next_of (drop w.stand.at l))

-- `u` lies on the way of the fast path from `w` on: what is still to come brings both to the same place
pub record Onward (l : List ℕ) (w u : Way) : Type 0 where
  pub same : swift_of w.stand.left l w ≡ swift_of u.stand.left l u
  pub stands : Stands l u.out u.stand
  pub fewer : u.stand.left ≤ w.stand.left
  pub all : length u.out ≡ length w.out
