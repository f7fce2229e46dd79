-- What one call of a stream after another moved.
use Rattle.std.proofs.Common.{◌≡◌, ◌++◌, ◌∷◌, ◌∙◌, ℕ, List, [], Option, sym, ap, append-nil, take}
use Rattle.std.specs.Io.KnownBytes.{Appends, Consumes}
use Rattle.std.proofs.KnownBytes.{Appends-nil, Appends-trans, Consumes-nil, Consumes-trans}
use Rattle.std.proofs.lemmas.List.{append_assoc}
use Rattle.std.proofs.lemmas.Grind.{flat_map-append}
use Rattle.dconf_streams.specs.declared.counted.Counted.{Counted}
use Rattle.dconf_streams.specs.Transfers.{Transfer, bytes_moved, transfer_of, moved_by}
use Rattle.dconf_streams.specs.Counted.{Delivered, Grew, transfers_of, inner_of, moved_of}

one_more : (transfers all : List Transfer) (c : Transfer) → all ≡ transfers ++ c ∷ [] → moved_by all ≡ moved_by transfers ++ bytes_moved c
one_more transfers all c e =
    ap moved_by e ∙ flat_map-append bytes_moved transfers (c ∷ []) ∙ ap (λ (l : List ℕ). moved_by transfers ++ l) (append-nil (bytes_moved c))

-- of a writer
module _ {W : Type 0} (contents : W → Option (List ℕ)) where
  pub Grew-nil : (c : Counted W) → Grew contents c c []
  Grew-nil c = record { taken = sym (append-nil (moved_of c)); held = Appends-nil (contents (inner_of c)) }

  pub Grew-trans : (old mid new : Counted W) (xs ys : List ℕ) → Grew contents old mid xs → Grew contents mid new ys → Grew contents old new (xs ++ ys)
  Grew-trans old mid new xs ys first later = record {
    taken = later.taken ∙ ap (λ (l : List ℕ). l ++ ys) first.taken ∙ append_assoc (moved_of old) xs ys;
    held = Appends-trans (contents (inner_of old)) (contents (inner_of mid)) (contents (inner_of new)) xs ys first.held later.held;
  }

  -- a write that took so many bytes
  pub grew_by : (old new : Counted W) (n : ℕ) (buf : List ℕ) → transfers_of new ≡ transfers_of old ++ transfer_of (n ∷ []) buf ∷ []
      → Appends (contents (inner_of old)) (contents (inner_of new)) (take n buf) → Grew contents old new (take n buf)
  grew_by old new n buf called held = record { taken = one_more (transfers_of old) (transfers_of new) (transfer_of (n ∷ []) buf) called; held = held }

-- of a reader
module _ {R : Type 0} (remaining : R → Option (List ℕ)) where
  pub Delivered-nil : (c : Counted R) → Delivered remaining c c []
  Delivered-nil c = record { given = sym (append-nil (moved_of c)); left = Consumes-nil (remaining (inner_of c)) }

  pub Delivered-trans : (old mid new : Counted R) (xs ys : List ℕ) → Delivered remaining old mid xs → Delivered remaining mid new ys → Delivered remaining old new (xs ++ ys)
  Delivered-trans old mid new xs ys first later = record {
    given = later.given ∙ ap (λ (l : List ℕ). l ++ ys) first.given ∙ append_assoc (moved_of old) xs ys;
    left = Consumes-trans (remaining (inner_of old)) (remaining (inner_of mid)) (remaining (inner_of new)) xs ys first.left later.left;
  }

  -- a read that gave so many bytes
  pub gave_by : (old new : Counted R) (n : ℕ) (buf : List ℕ) → transfers_of new ≡ transfers_of old ++ transfer_of (n ∷ []) buf ∷ []
      → Consumes (remaining (inner_of old)) (remaining (inner_of new)) (take n buf) → Delivered remaining old new (take n buf)
  gave_by old new n buf called left = record { given = one_more (transfers_of old) (transfers_of new) (transfer_of (n ∷ []) buf) called; left = left }
