-- Words that fit have a word for each place.
use Rattle.std.proofs.Common.{◌≡◌, ◌≤◌, ◌&&◌, Bool, true, false, List, [], ◌∷◌, length, arith, refl}
use Rattle.nb_words.specs.declared.word.Word.{Word}
use Rattle.nb_edit.specs.declared.form.Place.{Place}
use Rattle.nb_edit.specs.declared.form.Tail.{Tail}
use Rattle.nb_edit.specs.declared.verb.Verb.{Verb}
use Rattle.nb_edit.specs.Commands.{suits, fits, is_well_formed, is_once}
use Rattle.nb_edit.specs.Forms.{form}
use Rattle.nb_edit.specs.Keywords.{is_whole}
use Rattle.std.specs.List.{list_all}

both : (a b : Bool) → (a && b) ≡ true → (a ≡ true) × (b ≡ true)
both true b e = (refl, e)
both false b e = absurd cc

places_filled : (places : List Place) (tail : Tail) (words : List Word) → fits places tail words ≡ true → length places ≤ length words
places_filled [] tail words e = omega arith
places_filled (place ∷ places) tail [] e = absurd cc
places_filled (place ∷ places) tail (word ∷ words) e = let rest = places_filled places tail words ((both (suits place word) (fits places tail words) e).1) in omega arith

pub has_places : (verb : Verb) (options words : List Word) → is_well_formed verb options words ≡ true → length (form verb).places ≤ length words
has_places verb options words e = places_filled (form verb).places (form verb).tail words
    ((both (list_all (λ (word : Word). is_whole word.text) options && list_all (is_once options) (form verb).flags) (fits (form verb).places (form verb).tail words) e).1)
