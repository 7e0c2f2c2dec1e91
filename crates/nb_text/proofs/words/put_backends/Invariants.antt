use Rattle.std.proofs.Common.{◌≡◌, [], ◌++◌, drop}
use Rattle.nv_base.specs.Growth.{GrowsAtEnd}
use Rattle.nb_text.specs.Words.{backends_text}
use Rattle.nb_text.proofs.words.put_backends.Given as goal

-- with the text of the backends that are left, what is there is the whole
abbrev pub invariant-loop-backend : goal.invariant-loop-backend
invariant-loop-backend l = record {
  grown : GrowsAtEnd l.fn.out.items l.out.items;
  whole : l.out.items ++ backends_text l.front (drop l.backend-index l.backends) ≡ l.fn.out.items ++ backends_text [] l.backends;
}
