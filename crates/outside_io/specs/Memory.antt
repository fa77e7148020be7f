-- What contracts see of the sources and sinks in memory.
use Rattle.std.specs.Prelude.{ℕ, List, Bool, Option, None, Some, if◌then◌else◌}

-- a source that never fails: the bytes still to come, and the most that one read gives
pub record BytesToCome : Type 0 where
  pub left : List ℕ
  pub most : ℕ

-- one that fails: likewise, with the numbers of the reads that fail,
-- and how many reads there were and how many of them failed
pub record FailingBytesToCome : Type 0 where
  pub left : List ℕ
  pub most : ℕ
  pub fails : List ℕ
  pub calls : ℕ
  pub faults : ℕ

-- a sink that never fails: the bytes that it keeps, how many it has room for,
-- the most that one write takes, and whether a byte was past the room
pub record BytesKept : Type 0 where
  pub bytes : List ℕ
  pub room : ℕ
  pub most : ℕ
  pub is_past : Bool

-- what such a sink tells
abbrev pub told_bytes : BytesKept → Option (List ℕ)
told_bytes sink = if sink.is_past then None else Some sink.bytes

-- one that fails: the bytes that it holds, how many it has room for, the most that one write takes,
-- the numbers of the writes that fail, and how many writes there were and how many of them failed
pub record FailingBytesKept : Type 0 where
  pub bytes : List ℕ
  pub room : ℕ
  pub most : ℕ
  pub fails : List ℕ
  pub calls : ℕ
  pub faults : ℕ
