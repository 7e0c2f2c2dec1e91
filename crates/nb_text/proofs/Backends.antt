-- The text of backends, one on.
use Rattle.std.proofs.Common.{◌≡◌, ℕ, ◌+◌, ◌<◌, List, ◌++◌, codes, length, slice_index_or, drop, append_assoc}
use Rattle.std.proofs.lemmas.List.{at_drop_more}
use Rattle.nb_records.specs.declared.balancer.Backend.{Backend}
use Rattle.nb_text.specs.Words.{backends_text, service_text}

-- where one is written, what is there with the text of those after it is what was there with the text from it on
pub one_on : (backends : List Backend) (i : ℕ) (d : Backend) (front there middle end : List ℕ) → i < length backends
    → middle ≡ there ++ front → end ≡ middle ++ service_text (slice_index_or backends i d).addr (slice_index_or backends i d).port
    → end ++ backends_text (codes ",") (drop (i + 1) backends) ≡ there ++ backends_text front (drop i backends)
one_on backends i d front there middle end within first second =
    let one = at_drop_more (backends_text front) backends i d within in
    rw (second, first, one) (simp append_assoc)
