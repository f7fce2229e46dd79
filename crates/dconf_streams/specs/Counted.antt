-- What a counted stream shows, and what its transfers moved.
use Rattle.std.specs.Prelude.{◌≡◌, ◌++◌, ◌∷◌, [], ℕ, List, Option}
use Rattle.std.specs.Io.KnownBytes.{Appends, Consumes}
use Rattle.dconf_streams.specs.Transfers.{Transfer, FoundEnd, moved_by}
use Rattle.dconf_streams.specs.declared.counted.Counted.{Counted}

abbrev pub failures_of : {S : Type 0} → Counted S → ℕ
failures_of c = c.failures

abbrev pub inner_of : {S : Type 0} → Counted S → S
inner_of c = c.inner

-- its transfers, in their order
abbrev pub transfers_of : {S : Type 0} → Counted S → List Transfer
transfers_of c = c.trace.transfers

-- the bytes that its reads gave, or that its writes took, whatever stream it is
abbrev pub moved_of : {S : Type 0} → Counted S → List ℕ
moved_of c = moved_by (transfers_of c)

-- its writes took these bytes more; and what it holds, where it says that, grew by them
pub record Grew {W : Type 0} (contents : W → Option (List ℕ)) (old new : Counted W) (bytes : List ℕ) : Type 0 where
  pub taken : moved_of new ≡ moved_of old ++ bytes
  pub held : Appends (contents (inner_of old)) (contents (inner_of new)) bytes

-- its reads gave these bytes more; and what it has left, where it says that, began with them
pub record Delivered {R : Type 0} (remaining : R → Option (List ℕ)) (old new : Counted R) (bytes : List ℕ) : Type 0 where
  pub given : moved_of new ≡ moved_of old ++ bytes
  pub left : Consumes (remaining (inner_of old)) (remaining (inner_of new)) bytes

-- the last of its reads since then found the end
pub record CameToEnd {R : Type 0} (old new : Counted R) : Type 0 where
  pub earlier : List Transfer
  pub last : Transfer
  pub transfers : transfers_of new ≡ transfers_of old ++ (earlier ++ last ∷ [])
  pub found_end : FoundEnd last
