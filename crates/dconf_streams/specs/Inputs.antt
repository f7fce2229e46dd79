-- What reading the input gives.
use Rattle.std.specs.Prelude.{◌≡◌, ◌≤◌, ◌<◌, ◌+◌, ◌⊎◌, ◌++◌, ◌∷◌, ℕ, true, false, List, [], length, Option, Result, IfOk, IfErr, unwrap_or}
use Rattle.std.specs.Io.KnownBytes.{IsAtEnd}
use Rattle.refused.specs.declared.Refused.{Refused}
use Rattle.refused.specs.Faults.{OfFault}
use Rattle.dconf_model.specs.Lines.{longest_text}
use Rattle.dconf_model.specs.Outcomes.{read_failed}
use Rattle.dconf_model.specs.Reads.{Input}
use Rattle.dconf_streams.specs.declared.counted.Counted.{Counted}
use Rattle.dconf_streams.specs.declared.input.FailedRead.{FailedRead}
use Rattle.dconf_streams.specs.Transfers.{Transfer, FoundEnd}
use Rattle.dconf_streams.specs.Counted.{Delivered, transfers_of, failures_of, inner_of}
use Rattle.dconf_streams.specs.Streams.{one_more}

-- The input that a run was given: what its reads gave, and then what the stream says that it has left; where a read failed, what the
-- reads before it gave.
pub record Took {R : Type 0} (remaining : R → Option (List ℕ)) (old new : Counted R) (i : Input) : Type 0 where
  pub gave : List ℕ
  pub given : Delivered remaining old new gave
  pub whole : i.fails ≡ false → i.bytes ≡ gave ++ unwrap_or (remaining (inner_of new)) []
  pub part : i.fails ≡ true → (i.bytes ≡ gave) × (failures_of new ≡ one_more (failures_of old))

-- no more was read than shows that a text is too long, and by no more reads than that has bytes
pub record ReadsText {R : Type 0} (remaining : R → Option (List ℕ)) (old new : Counted R) : Type 0 where
  pub gave : List ℕ
  pub given : Delivered remaining old new gave
  pub fits : length gave ≤ longest_text + 1
  pub reads : length (transfers_of new) ≤ length (transfers_of old) + (longest_text + 1)

-- One read gave at most so many bytes. They were appended, unless there was a fault. One that failed gave none; and else none is the
-- end, where there was room.
pub record TakesPiece {R : Type 0} (remaining : R → Option (List ℕ)) (old new : Counted R) (room : ℕ)
    (bytes_old bytes_new : List ℕ) (result : Result ℕ (Refused FailedRead)) : Type 0 where
  pub piece : List ℕ
  pub given : Delivered remaining old new piece
  pub transfer : Transfer
  pub once : transfers_of new ≡ transfers_of old ++ transfer ∷ []
  pub fits : length piece ≤ room
  pub appended : IfOk result (λ n. (bytes_new ≡ bytes_old ++ piece) × (length piece ≡ n))
  pub failing : IfErr result (OfFault (λ _. piece ≡ []))
  pub ended : IfOk result (λ n. n ≡ 0 → 0 < room → IsAtEnd (remaining (inner_of new)) × FoundEnd transfer)

-- the same bytes, or both too many for a text
abbrev pub SameText : List ℕ → List ℕ → Type 0
SameText given read = (read ≡ given) ⊎ ((longest_text < length given) × (longest_text < length read))

-- What was read of an input is its text; it is lost where a read failed first. Without memory nothing is known.
pub record IsReadOf {V : Type 0} (i : Input) (items : V → List ℕ) (result : Result V (Refused FailedRead)) : Type 0 where
  pub text : IfOk result (λ bytes. (read_failed i ≡ false) × SameText i.bytes (items bytes))
  pub failing : IfErr result (OfFault (λ _. read_failed i ≡ true))
