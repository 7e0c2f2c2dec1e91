-- A tree as the list of its entries, in order.
use Rattle.std.specs.Prelude.{List, [], ◌∷◌, ◌++◌, Option, None, Some, Box}

-- the entries below a node, its own, and those above it
abbrev pub Around : Type 0 → Type 0 → Type 0
Around K V = List (K × V) × (K × V) × List (K × V)

-- all entries of a node
abbrev pub entries_of : {K V : Type 0} → Around K V → List (K × V)
entries_of node = node.0 ++ node.1 ∷ node.2

-- all entries of a tree
abbrev pub tree_entries : {K V A : Type 0} → Option (Box (Around K V) A) → List (K × V)
tree_entries None = []
tree_entries (Some node) = entries_of node.value
