use Rattle.std.proofs.Common.{rules, ℕ, ◌≡◌, ◌<◌, ◌^◌, List, [], ◌∷◌, ◌++◌, ap, ap₂, sym, ◌∙◌, slice_index_or}
use Rattle.std.specs.Int.{bytes_low_first}
use Rattle.gv_model.specs.Encode.{number_bytes}
use Rattle.gv_model.proofs.NumberBytes.{low_bytes}
use Rattle.gvdb_format.proofs.record.ItemRecord.bytes.Goals as goal

two : (n : ℕ) (b : List ℕ) → n < 256 ^ 2 → b ≡ bytes_low_first 0 2 n → slice_index_or b 0 0 ∷ slice_index_or b 1 0 ∷ [] ≡ number_bytes 2 n
two n b h e = ap (λ (b : List ℕ). slice_index_or b 0 0 ∷ slice_index_or b 1 0 ∷ []) e ∙ sym (low_bytes 2 n h)

four : (n : ℕ) (b : List ℕ) → n < 256 ^ 4 → b ≡ bytes_low_first 0 4 n → slice_index_or b 0 0 ∷ slice_index_or b 1 0 ∷ slice_index_or b 2 0 ∷ slice_index_or b 3 0 ∷ [] ≡ number_bytes 4 n
four n b h e = ap (λ (b : List ℕ). slice_index_or b 0 0 ∷ slice_index_or b 1 0 ∷ slice_index_or b 2 0 ∷ slice_index_or b 3 0 ∷ []) e ∙ sym (low_bytes 4 n h)

pub returns : goal.returns
returns c =
    let hash = four c.args.self.hash c.to_le_bytes-hash.result (search rules) c.to_le_bytes-hash.ensures in
    let parent = four c.parent_number.result c.to_le_bytes-parent.result (search rules) c.to_le_bytes-parent.ensures ∙ ap (number_bytes 4) c.parent_number.ensures in
    let key = four c.args.self.key_start c.to_le_bytes-key.result (search rules) c.to_le_bytes-key.ensures in
    let size = two c.args.self.key_size c.to_le_bytes-size.result (search rules) c.to_le_bytes-size.ensures in
    let start = four c.args.self.start c.to_le_bytes-start.result (search rules) c.to_le_bytes-start.ensures in
    let end = four c.args.self.end c.to_le_bytes-end.result (search rules) c.to_le_bytes-end.ensures in
    ap₂ ◌++◌ hash (ap₂ ◌++◌ parent (ap₂ ◌++◌ key (ap₂ ◌++◌ size (ap (λ (l : List ℕ). c.args.self.kind ∷ 0 ∷ l) (ap₂ ◌++◌ start end)))))
