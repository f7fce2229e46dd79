-- The records of items while they are written: the numbers of their keys, and where their contents are.
use Rattle.std.proofs.lemmas.Grind.{common_steps}
use Rattle.std.proofs.Common.{ℕ, ◌≡◌, ◌<◌, ◌+◌, ◌*◌, List, [], ◌∷◌, ◌++◌, length, get_or, refl, sym, ap, ◌∙◌, append_assoc, subst, arith, ◌-◌, None}
use Rattle.std.proofs.lemmas.List.{append-nil, map-append}
use Rattle.std.proofs.lemmas.List.Concat.{flat_map-append}
use Rattle.dconf_model.specs.Table.{value_kind, list_kind, table_kind}
use Rattle.dconf_model.specs.TableBytes.{record_bytes, records_bytes}
use Rattle.gvdb_format.specs.ItemRecords.{record_of}
use Rattle.gvdb_format.specs.declared.record.ItemRecord.{ItemRecord as Numbers}
use Rattle.gvdb_maps.specs.declared.contents.Contents.{Contents}
use Rattle.gvdb_maps.specs.declared.layout.Pointer.{Pointer}
use Rattle.gvdb_maps.specs.declared.names.Content.{Content}
use Rattle.gvdb_maps.specs.declared.names.Content.TheVariants.{Value, List as Listed, Locks}
use Rattle.gvdb_maps.specs.declared.names.Named.{Named}
use Rattle.gvdb_maps.specs.LayoutParts.{content_pointer, pointer_at, row, HasPointer, IsRecordOf, AreNumbersOf}
use Rattle.gvdb_maps.specs.PlanWords.{named, name_at, kind_of, entries_of}
use Rattle.gvdb_maps.specs.WrittenParts.{HasRecords, records_of}
use Rattle.dconf_model.specs.Plans.{keys_end}
use Rattle.dconf_model.proofs.PlanEnds.{keys_grow}

-- what goals read where there is no item
abbrev pub no_item : Named
no_item = record { name = record { ref_ptr = (0, 0); now = [] }; from = 0; hash = 0; parent = None; content = Value record { ref_ptr = (0, 0); now = [] } }

-- of so many items, whose keys end there
pub record AreRowsBelow (items : List Named) (from : ℕ) (rows : List Numbers) (at n : ℕ) : Type 0 where
  pub counted : length rows ≡ n
  pub ends : at ≡ keys_end (entries_of items) from n
  pub each : (i : ℕ) → i < length rows → IsRecordOf items from i (row rows i)

pub next_end : (items : List Named) (from at next n : ℕ) → at ≡ keys_end (entries_of items) from n → next ≡ at + (length (name_at items n) - (named items n).from) → next ≡ keys_end (entries_of items) from (n + 1)
next_end items from at next n ends is = grind (arith, common_steps)

-- one item more
pub row_more : (items : List Named) (from : ℕ) (rows new : List Numbers) (at next n : ℕ) (d : Named) (r : Numbers) → AreRowsBelow items from rows at n
    → d ≡ named items n → next ≡ at + (length d.name.now - d.from) → new ≡ rows ++ r ∷ [] → AreNumbersOf d at r → AreRowsBelow items from new next (n + 1)
row_more items from rows new at next n d r so item laid pushed is = grind (arith, common_steps)

-- a key that goes past what fits does so with those after it
pub past_all : (items : List Named) (from at n size most : ℕ) (d : Named) → n < length items → at ≡ keys_end (entries_of items) from n → d ≡ named items n → size ≡ length d.name.now - d.from → most < at + size → most < keys_end (entries_of items) from (length items)
past_all items from at n size most d here ends item sized past =
    let end = next_end items from at (at + size) n ends (ap (λ (k : ℕ). at + k) (subst (λ (m : Named). size ≡ length m.name.now - m.from) item sized)) in
    let rise = keys_grow (entries_of items) from (n + 1) (length items) (omega (arith, here)) in
    omega (arith, end, rise, past)

-- of so many items
abbrev pub ArePointedBelow : List Named → Contents → List Numbers → Type 0
ArePointedBelow items c rows =
    (i : ℕ) → i < length rows → HasPointer (row rows i) (content_pointer c i (named items i).content).start (content_pointer c i (named items i).content).end

-- one item more
pub pointed_more : (items : List Named) (c : Contents) (rows new : List Numbers) (n : ℕ) (d : Named) (r : Numbers) (p : Pointer)
    → length rows ≡ n → ArePointedBelow items c rows → d ≡ named items n → new ≡ rows ++ r ∷ [] → p ≡ content_pointer c n d.content → r.start ≡ p.start → r.end ≡ p.end → ArePointedBelow items c new
pointed_more items c rows new n d r p count so item pushed is start end = grind (arith, common_steps)

-- the records of so many items, which come after what was there
pub record AreWrittenBelow (items : List Named) (from : ℕ) (c : Contents) (before after : List ℕ) (at n : ℕ) : Type 0 where
  pub rows : List Numbers
  pub below : AreRowsBelow items from rows at n
  pub pointed : ArePointedBelow items c rows
  pub bytes : after ≡ before ++ records_bytes (records_of rows)

pub none_written : (items : List Named) (from : ℕ) (c : Contents) (before : List ℕ) → AreWrittenBelow items from c before before from 0
none_written items from c before = record {
  rows = [];
  below = record { counted = refl; ends = refl; each = λ i l. absurd (omega (arith, l)) };
  pointed = λ i l. absurd (omega (arith, l));
  bytes = sym (append-nil before);
}

one_record : (rows : List Numbers) (r : Numbers) → records_bytes (records_of (rows ++ r ∷ [])) ≡ records_bytes (records_of rows) ++ record_bytes (record_of r)
one_record rows r = grind (arith, common_steps, map-append, flat_map-append, append-nil)

-- one item more
pub record_more : (items : List Named) (from : ℕ) (c : Contents) (before now new : List ℕ) (at next n : ℕ) (d : Named) (r : Numbers)
    → AreWrittenBelow items from c before now at n → d ≡ named items n → next ≡ at + r.key_size → AreNumbersOf d at r
    → HasPointer r (content_pointer c n d.content).start (content_pointer c n d.content).end → new ≡ now ++ record_bytes (record_of r) → AreWrittenBelow items from c before new next (n + 1)
record_more items from c before now new at next n d r so item size is pointer pushed = record {
  rows = so.rows ++ r ∷ [];
  below = row_more items from so.rows _ at next n d r so.below item (size ∙ ap (λ (m : ℕ). at + m) is.key_size) refl is;
  pointed = pointed_more items c so.rows _ n d r (content_pointer c n d.content) so.below.counted so.pointed item refl refl pointer.start_is pointer.end_is;
  bytes = pushed
      ∙ (ap (λ (l : List ℕ). l ++ record_bytes (record_of r)) so.bytes
      ∙ (append_assoc before (records_bytes (records_of so.rows)) (record_bytes (record_of r)) ∙ ap (λ (l : List ℕ). before ++ l) (sym (one_record so.rows r))));
}

pub all_written : (items : List Named) (from : ℕ) (c : Contents) (before after : List ℕ) (at n : ℕ) → AreWrittenBelow items from c before after at n → n ≡ length items → HasRecords items from c before after
all_written items from c before after at n so all =
    let count = so.below.counted in
    record {
      rows = so.rows;
      are = record {
        are = record { counted = count ∙ all; each = λ i l. so.below.each i (omega (arith, l, count, all)) };
        pointed = λ i l. so.pointed i (omega (arith, l, count, all));
      };
      bytes = so.bytes;
    }

-- ---- by the kind of an item

pub of_value : (c : Contents) (i : ℕ) (content : Content) → kind_of content ≡ value_kind → content_pointer c i content ≡ pointer_at c.pointers.now (get_or c.places.now i 0)
of_value c i (Value bytes) e = refl
of_value c i Listed e = absurd (omega (arith, e))
of_value c i Locks e = absurd (omega (arith, e))

pub of_list : (c : Contents) (i : ℕ) (content : Content) → kind_of content ≡ list_kind → content_pointer c i content ≡ record { start = c.lists + 4 * get_or c.firsts.now i 0; end = c.lists + 4 * get_or c.firsts.now (i + 1) 0 }
of_list c i (Value bytes) e = absurd (omega (arith, e))
of_list c i Listed e = refl
of_list c i Locks e = absurd (omega (arith, e))

pub of_table : (c : Contents) (i : ℕ) (content : Content) → kind_of content ≡ table_kind → content_pointer c i content ≡ c.table
of_table c i (Value bytes) e = absurd (omega (arith, e))
of_table c i Listed e = absurd (omega (arith, e))
of_table c i Locks e = refl
