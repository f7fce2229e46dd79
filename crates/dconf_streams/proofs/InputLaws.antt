-- The input that a run was given, by what was read of it.
use Rattle.std.proofs.Common.{◌≡◌, ◌≤◌, ◌<◌, ◌+◌, ◌-◌, ◌++◌, ◌∷◌, ◌⊎◌, ◌∙◌, inl, inr, ℕ, true, false, List, [], Option, Some, None, Result, Ok, Err, refl, sym, ap, length, length-append, length-take-le, take, append-nil, arith}
use Rattle.std.specs.Prelude.{nat_lt, not, unwrap_or}
use Rattle.std.specs.Io.KnownBytes.{Consumes, IsAtEnd}
use Rattle.std.proofs.lemmas.List.{append_assoc}
use Rattle.refused.specs.declared.Refused.{Refused}
use Rattle.refused.specs.declared.Refused.TheVariants.{Fault, Memory}
use Rattle.refused.specs.Faults.{OfFault}
use Rattle.dconf_model.specs.Lines.{longest_text}
use Rattle.dconf_model.specs.Reads.{Input}
use Rattle.dconf_streams.specs.declared.counted.Counted.{Counted}
use Rattle.dconf_streams.specs.declared.input.FailedRead.{FailedRead}
use Rattle.dconf_streams.specs.Transfers.{Transfer, FoundEnd, transfer_of}
use Rattle.dconf_streams.specs.Counted.{CameToEnd, Delivered, transfers_of, failures_of, inner_of}
use Rattle.dconf_streams.specs.Inputs.{IsReadOf, ReadsText, SameText, TakesPiece, Took}
use Rattle.dconf_streams.specs.Streams.{one_more}
use Rattle.dconf_streams.proofs.TransferLaws.{Delivered-nil, Delivered-trans, gave_by}

-- the bytes are all that the stream had, or both are too many
same_text : (left : Option (List ℕ)) (bytes : List ℕ) → IsAtEnd left ⊎ (longest_text < length bytes) → SameText (bytes ++ unwrap_or left []) bytes
same_text None bytes end = inl (sym (append-nil bytes))
same_text (Some rest) bytes (inl end) = inl (sym (ap (λ (l : List ℕ). bytes ++ l) end ∙ append-nil bytes))
same_text (Some rest) bytes (inr many) = let size = length-append bytes rest in inr (omega (arith, size, many), many)

module _ {R : Type 0} (remaining : R → Option (List ℕ)) where
  -- these bytes were read since then, by a read for each at most
  pub record HasReadSome (old new : Counted R) (bytes : List ℕ) : Type 0 where
    pub given : Delivered remaining old new bytes
    pub transfers : List Transfer
    pub are : transfers_of new ≡ transfers_of old ++ transfers
    pub few : length transfers ≤ length bytes

  pub none_read : (c : Counted R) → HasReadSome c c []
  none_read c = record { given = Delivered-nil remaining c; transfers = []; are = sym (append-nil (transfers_of c)); few = omega arith }

  -- ---- one read, by its call

  module _ (old new : Counted R) (room : ℕ) (buf bytes after : List ℕ) (n : ℕ) (called : transfers_of new ≡ transfers_of old ++ transfer_of (n ∷ []) buf ∷ [])
      (left : Consumes (remaining (inner_of old)) (remaining (inner_of new)) (take n buf)) (bound : n ≤ length buf) (room_is : length buf ≡ room) where
    size : length (take n buf) ≡ n
    size = length-take-le n buf bound

    pub took_all : after ≡ bytes ++ take n buf → (n ≡ 0 → 0 < length buf → IsAtEnd (remaining (inner_of new)))
        → TakesPiece remaining old new room bytes after (Ok n)
    took_all is at_end = record {
      piece = take n buf;
      given = gave_by remaining old new n buf called left;
      transfer = transfer_of (n ∷ []) buf;
      once = called;
      fits = let is = size in omega (arith, is, bound, room_is);
      appended = (is, size);
      failing = tt;
      ended = λ zero some. (
        at_end zero (omega (arith, some, room_is)),
        record { room = length buf - 1; asked = omega (arith, some, room_is); moved = ap (λ (k : ℕ). Some (take k buf)) zero },
      );
    }

  -- ---- a read more

  module _ (old mid new : Counted R) (room : ℕ) (bytes after : List ℕ) (result : Result ℕ (Refused FailedRead)) (read : HasReadSome old mid bytes)
      (more : TakesPiece remaining mid new room bytes after result) where
    all_calls : transfers_of new ≡ transfers_of old ++ (read.transfers ++ more.transfer ∷ [])
    all_calls = more.once ∙ ap (λ (l : List Transfer). l ++ more.transfer ∷ []) read.are ∙ append_assoc (transfers_of old) read.transfers (more.transfer ∷ [])

    -- a read that failed adds nothing
    pub gave_before : more.piece ≡ [] → length bytes ≤ longest_text → length (bytes ++ more.piece) ≤ longest_text
    gave_before none short =
        let size = length-append bytes more.piece in
        let empty = ap length none in
        omega (arith, size, empty, short)

    pub gave_both : Delivered remaining old new (bytes ++ more.piece)
    gave_both = Delivered-trans remaining old mid new bytes more.piece read.given more.given

    pub read_more : 0 < length more.piece → HasReadSome old new (bytes ++ more.piece)
    read_more some =
        let sizes = length-append bytes more.piece in
        let count = length-append read.transfers (more.transfer ∷ []) in
        let few = read.few in
        record { given = gave_both; transfers = read.transfers ++ more.transfer ∷ []; are = all_calls; few = omega (arith, sizes, count, few, some) }

    pub came_to_end : FoundEnd more.transfer → CameToEnd old new
    came_to_end found_end = record { earlier = read.transfers; last = more.transfer; transfers = all_calls; found_end = found_end }

    module _ (most : ℕ) (room_is : length bytes + room ≤ most) where
      pub both_fit : length (bytes ++ more.piece) ≤ most
      both_fit =
          let size = length-append bytes more.piece in
          let fits = more.fits in
          omega (arith, size, fits, room_is)

    pub reads_text : 0 < room → length bytes + room ≤ longest_text + 1 → ReadsText remaining old new
    reads_text some room_is =
        let count = ap length all_calls in
        let counts = length-append (transfers_of old) (read.transfers ++ more.transfer ∷ []) in
        let last = length-append read.transfers (more.transfer ∷ []) in
        let few = read.few in
        record {
          gave = bytes ++ more.piece;
          given = gave_both;
          fits = both_fit (longest_text + 1) room_is;
          reads = omega (arith, count, counts, last, few, some, room_is);
        }

  -- as many as there may be
  pub reads_whole_text : (old new : Counted R) (bytes : List ℕ) → HasReadSome old new bytes → length bytes ≤ longest_text + 1 → ReadsText remaining old new
  reads_whole_text old new bytes read fits =
      let count = ap length read.are in
      let counts = length-append (transfers_of old) read.transfers in
      let few = read.few in
      record { gave = bytes; given = read.given; fits = fits; reads = omega (arith, count, counts, few, fits) }

module _ {V R : Type 0} (items : V → List ℕ) (remaining : R → Option (List ℕ)) (old new : Counted R) where
  -- the input that was read with this result
  abbrev pub WasRead : Result V (Refused FailedRead) → Type 0
  WasRead result = (i : Input) × Took remaining old new i × IsReadOf i items result

  -- these bytes, and then what is left
  whole : List ℕ → Input
  whole gave = record { bytes = gave ++ unwrap_or (remaining (inner_of new)) []; fails = false }

  took_whole : (gave : List ℕ) → Delivered remaining old new gave → Took remaining old new (whole gave)
  unfolding whole
  took_whole gave given = record { gave = gave; given = given; whole = λ _. refl; part = λ e. cc }

  pub read_fault : (gave : List ℕ) (fault : Refused FailedRead) → Delivered remaining old new gave → OfFault (λ _. length gave ≤ longest_text) fault
      → OfFault (λ _. failures_of new ≡ one_more (failures_of old)) fault → WasRead (Err fault)
  read_fault gave (Fault f) given small rose =
      let fits : nat_lt longest_text (length gave) ≡ false = grind arith in (
        record { bytes = gave; fails = true },
        record { gave = gave; given = given; whole = λ e. cc; part = λ _. (refl, rose) },
        record { text = tt; failing = ap not fits },
      )
  read_fault gave Memory given short rose = (whole gave, took_whole gave given, record { text = tt; failing = tt })

  pub read_text : (bytes : V) → Delivered remaining old new (items bytes)
      → IsAtEnd (remaining (inner_of new)) ⊎ (longest_text < length (items bytes)) → WasRead (Ok bytes)
  unfolding whole
  read_text bytes given end = (
    whole (items bytes),
    took_whole (items bytes) given,
    record { text = (refl, same_text (remaining (inner_of new)) (items bytes) end); failing = tt },
  )
