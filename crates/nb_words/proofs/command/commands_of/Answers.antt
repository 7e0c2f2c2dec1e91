use Rattle.std.proofs.Common.{◌≡◌, ◌++◌, [], ◌∷◌, false, length, length-append, arith, ap}
use Rattle.nb_words.specs.Commands.{is_between}
use Rattle.nb_words.proofs.Splits.{command_grows}
use Rattle.nb_words.proofs.command.commands_of.Goals as goal

-- the word joins the command that is begun
pub loop-word-preserved : goal.loop-word-preserved
loop-word-preserved c =
    let grows : c.push-else-is_between.new.self ≡ c.loop-word.command ++ c.in-Some.word ∷ [] = c.in_ok-push-2.ensures.ok in
    let joins : is_between c.in-Some.word ≡ false = cc in
    record {
      number = omega (arith, length-append c.loop-word.yielded (c.in-Some.word ∷ []));
      begun = omega (arith, ap length grows, length-append c.loop-word.command (c.in-Some.word ∷ []));
      same = command_grows 1 c.loop-word.yielded c.in-Some.word c.loop-word.commands c.loop-word.first c.loop-word.command c.push-else-is_between.new.self c.loop-word.invariant.same joins grows;
    }
