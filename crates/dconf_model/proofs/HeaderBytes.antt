-- A file that begins with a header, and whose root table is where the header says, opens as a database.
use Rattle.std.proofs.Common.{◌≡◌, ◌≤◌, ◌+◌, ◌%◌, ℕ, List, ◌++◌, length, refl, sym, ap, ◌∙◌, subst, arith, codes, length-append}
use Rattle.gv_model.specs.Encode.{number_bytes}
use Rattle.gv_model.proofs.NumberBytes.{length-number_bytes}
use Rattle.dconf_model.specs.Bytes.{u32_at}
use Rattle.dconf_model.specs.Table.{Table, HasHead, HasItems}
use Rattle.dconf_model.specs.Opening.{IsDatabase, root_of}
use Rattle.dconf_model.specs.TableBytes.{OccursAt, ItemRecord, header_bytes}
use Rattle.dconf_model.specs.TableEncoding.{EncodesTable}
use Rattle.dconf_model.proofs.Occurrences.{occurs_prefix, occurs_next, occurs_inside, read_range, read_u32}
use Rattle.dconf_model.proofs.TableNumbers.{has_items}

pub length-header : (start end : ℕ) → length (header_bytes start end) ≡ 24
length-header start end =
    let s = length-number_bytes 4 start in
    let e = length-number_bytes 4 end in
    let z = length-number_bytes 4 0 in
    grind (arith, length-append, s, e, z)

after_signature : (file : List ℕ) (start end : ℕ) → OccursAt file 0 (header_bytes start end) → OccursAt file 8 (number_bytes 4 0 ++ (number_bytes 4 0 ++ (number_bytes 4 start ++ number_bytes 4 end)))
after_signature file start end s = occurs_next file 0 8 (codes "GVariant") _ refl s

after_options : (file : List ℕ) (start end : ℕ) → OccursAt file 0 (header_bytes start end) → OccursAt file 16 (number_bytes 4 start ++ number_bytes 4 end)
after_options file start end s =
    occurs_next file 12 4 (number_bytes 4 0) _ (length-number_bytes 4 0)
    (occurs_next file 8 4 (number_bytes 4 0) _ (length-number_bytes 4 0) (after_signature file start end s))

pub same_table : (file : List ℕ) (a b c d : ℕ) → a ≡ b → c ≡ d → ◌≡◌ {A = Table} (record { file = file; start = a; end = c }) (record { file = file; start = b; end = d })
same_table file a b c d e f = ap (λ (n : ℕ). record { file = file; start = n; end = c }) e ∙ ap (λ (n : ℕ). record { file = file; start = b; end = n }) f

-- the root table is where the header says
pub root_is : (file : List ℕ) (start end : ℕ) → OccursAt file 0 (header_bytes start end) → root_of file ≡ record { file = file; start = start; end = end }
root_is file start end s =
    let b = after_options file start end s in
    same_table file (u32_at file 16) start (u32_at file 20) end
    (read_u32 file 16 start (occurs_prefix file 16 (number_bytes 4 start) (number_bytes 4 end) b))
    (read_u32 file 20 end (occurs_next file 16 4 (number_bytes 4 start) (number_bytes 4 end) (length-number_bytes 4 start) b))

head_fits : (t : Table) (words buckets : List ℕ) (rows : List ItemRecord) → EncodesTable t words buckets rows → t.start + 8 ≤ t.end
head_fits t words buckets rows s = let e = s.end_is in omega (arith, e)

pub is_database : (file : List ℕ) (start end : ℕ) (words buckets : List ℕ) (rows : List ItemRecord) → OccursAt file 0 (header_bytes start end) → start % 4 ≡ 0 → end ≤ length file → EncodesTable (record { file = file; start = start; end = end }) words buckets rows → IsDatabase file
is_database file start end words buckets rows s aligned inside table =
    let n = length-header start end in
    let all : 0 + length (header_bytes start end) ≤ length file = occurs_inside file 0 (header_bytes start end) s in
    let root = root_is file start end s in
    let version = read_u32 file 8 0 (occurs_prefix file 8 (number_bytes 4 0) _ (after_signature file start end s)) in
    record {
      header = omega (arith, n, all);
      signature = read_range file 0 8 (codes "GVariant") refl (occurs_prefix file 0 (codes "GVariant") _ s);
      version = version;
      root = subst HasHead (sym root) (record { inside = inside; aligned = aligned; head = head_fits _ words buckets rows table });
      table = subst HasItems (sym root) (has_items _ words buckets rows table);
    }
