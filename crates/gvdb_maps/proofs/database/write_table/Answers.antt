use Rattle.std.proofs.Common.{ℕ, ◌≡◌, ◌≤◌, ◌+◌, ◌/◌, List, ◌++◌, length, ap, ap₂, ◌∙◌, subst, arith, sym, append_assoc}
use Rattle.std.proofs.lemmas.Result.{on_ok_weaker}
use Rattle.dconf_model.specs.TableBytes.{words_bytes, head_bytes, table_bytes, ItemRecord, records_bytes}
use Rattle.gvdb_maps.specs.declared.names.Named.{Named}
use Rattle.gv_model.specs.Limits.{limit}
use Rattle.gvdb_maps.specs.LayoutParts.{CanPoint, all_keys_end, CanBeLaid}
use Rattle.gvdb_maps.specs.WrittenParts.{AreRowsOf, HaveBits, HaveKeys, keys_bytes, records_of}
use Rattle.gvdb_maps.proofs.Pieces.{appended_of}
use Rattle.gvdb_values.proofs.WithValues.{next_4, padded_is}
use Rattle.gvdb_format.proofs.AppendedBytes.{then_append}
use Rattle.gvdb_maps.proofs.database.write_table.Goals as goal

in_one : (h w b r k : List ℕ) → h ++ (w ++ (b ++ (r ++ k))) ≡ (h ++ (w ++ (b ++ r))) ++ k
in_one h w b r k =
    sym (append_assoc h (w ++ (b ++ r)) k
    ∙ ap (λ (l : List ℕ). h ++ l) (append_assoc w (b ++ r) k ∙ ap (λ (l : List ℕ). w ++ l) (append_assoc b r k)))

-- the parts of a table, and what comes after it
table_appended : (words buckets : List ℕ) (rows : List ItemRecord) (keys a b c d e f : List ℕ) → b ≡ a ++ head_bytes (length words) (length buckets)
    → c ≡ b ++ words_bytes words → d ≡ c ++ words_bytes buckets → e ≡ d ++ records_bytes rows → f ≡ e ++ keys → f ≡ a ++ (table_bytes words buckets rows ++ keys)
table_appended words buckets rows keys a b c d e f p1 p2 p3 p4 p5 =
    then_append a b f _ _ p1 (then_append b c f _ _ p2 (then_append c d f _ _ p3 (then_append d e f _ _ p4 p5)))
    ∙ ap (λ (l : List ℕ). a ++ l) (in_one (head_bytes (length words) (length buckets)) (words_bytes words) (words_bytes buckets) (records_bytes rows) keys)

pub write_records-requires-clause-items : goal.write_records-requires-clause-items
write_records-requires-clause-items c = subst CanBeLaid (sym c.deref-4.ensures.value) c.requires.table.items

pub write_records-requires-clause-keys : goal.write_records-requires-clause-keys
write_records-requires-clause-keys c = subst (λ (ns : List Named). all_keys_end c.args.keys_at ns ≤ limit) (sym c.deref-4.ensures.value) c.requires.table.keys

pub write_records-requires-clause-contents : goal.write_records-requires-clause-contents
write_records-requires-clause-contents c = subst (λ (ns : List Named). CanPoint ns c.args.contents) (sym c.deref-4.ensures.value) c.requires.table.contents

pub write_keys-requires : goal.write_keys-requires
write_keys-requires c = subst HaveKeys (sym c.deref-5.ensures.value) c.requires.table.items.from

pub returns : goal.returns
returns c =
    let table = c.args.table.now in
    let words = c.in_ok-words.words.items in
    let out = c.args.out.now.items in
    let written = c.in_ok-write_records.ensures.bytes in
    let next = c.next_multiple_of.ensures in
    let len : c.len.result ≡ length out = omega arith in
    let pad = padded_is 4 out c.pad.new.out.items c.len.result c.next_multiple_of.result len (next_4 _ _ next.lower_bound next.upper_bound next.multiple) c.in_ok-pad.ensures.bytes in
    let many : c.len-2.result ≡ length words = omega arith in
    let buckets : c.len-3.result ≡ length table.buckets.items = omega arith in
    let head = c.in_ok-write_head.ensures.bytes ∙ ap (λ (l : List ℕ). c.pad.new.out.items ++ l) (ap₂ head_bytes many buckets) in
    record {
      bytes = on_ok_weaker c.write_keys.result
          (λ last. record {
            rows = written.rows;
            are = subst (λ (ns : List Named). AreRowsOf ns c.args.keys_at c.args.contents written.rows) c.deref-4.ensures.value written.are;
            written = record {
              words = words;
              counted = c.in_ok-words.ensures.len ∙ ap (λ (ns : List Named). (length ns + 15) / 16) c.deref.ensures.value;
              bits = subst (λ (ns : List Named). HaveBits words ns) c.deref.ensures.value c.in_ok-words.ensures.bits;
              bytes =
                  table_appended words table.buckets.items (records_of written.rows) (keys_bytes table.items.items) c.pad.new.out.items c.write_head.new.out.items c.write_words.new.out.items c.write_numbers.new.out.items c.write_records.new.out.items c.write_keys.new.out.items
                  head
                  (appended_of words_bytes _ words c.write_head.new.out.items c.write_words.new.out.items c.deref-2.ensures.value c.in_ok-write_words.ensures.bytes)
                  (appended_of words_bytes _ table.buckets.items c.write_words.new.out.items c.write_numbers.new.out.items c.deref-3.ensures.value c.in_ok-write_numbers.ensures.bytes)
                  written.bytes
                  (appended_of keys_bytes _ table.items.items c.write_records.new.out.items c.write_keys.new.out.items c.deref-5.ensures.value last)
                  ∙ ap (λ (l : List ℕ). l ++ (table_bytes words table.buckets.items (records_of written.rows) ++ keys_bytes table.items.items)) pad;
            };
          })
          c.write_keys.ensures.bytes;
    }
