-- The words of commands are built as names are.
use Rattle.std.proofs.Common.{◌≡◌, true, refl}
use Rattle.separation_core.specs.Names.{is_name}
use Rattle.board_lines.specs.declared.word.Word.{Word}
use Rattle.board_lines.specs.declared.word.Word.TheVariants.{Propose, Hold, Manage, Separate, Session, Ask}
use Rattle.policy_core.specs.declared.separation.Separation.TheVariants.{Static, Dynamic}
use Rattle.board_lines.specs.declared.word.MoveWord.TheVariants as moves
use Rattle.board_lines.specs.declared.word.HoldWord.TheVariants as holds
use Rattle.board_lines.specs.declared.word.ManageWord.TheVariants as manages
use Rattle.board_lines.specs.declared.word.SetWord.TheVariants as sets
use Rattle.board_lines.specs.declared.word.SessionWord.TheVariants as sessions
use Rattle.board_lines.specs.declared.word.AskWord.TheVariants as asks
use Rattle.board_lines.specs.Table.{row_of}

pub text_is_name : (w : Word) → is_name (row_of w).text ≡ true
text_is_name (Propose moves.Insert) = refl
text_is_name (Propose moves.Remove) = refl
text_is_name (Propose moves.Shift) = refl
text_is_name (Propose moves.Swap) = refl
text_is_name (Propose moves.Reverse) = refl
text_is_name (Propose moves.Cross) = refl
text_is_name (Hold holds.Pin) = refl
text_is_name (Hold holds.Unpin) = refl
text_is_name (Hold holds.Freeze) = refl
text_is_name (Hold holds.Thaw) = refl
text_is_name (Manage manages.AddUser) = refl
text_is_name (Manage manages.DeleteUser) = refl
text_is_name (Manage manages.AddRole) = refl
text_is_name (Manage manages.DeleteRole) = refl
text_is_name (Manage manages.Assign) = refl
text_is_name (Manage manages.Deassign) = refl
text_is_name (Manage manages.Grant) = refl
text_is_name (Manage manages.Revoke) = refl
text_is_name (Manage manages.Inherit) = refl
text_is_name (Manage manages.Uninherit) = refl
text_is_name (Manage manages.Migrate) = refl
text_is_name (Separate Static sets.Create) = refl
text_is_name (Separate Static sets.Add) = refl
text_is_name (Separate Static sets.Drop) = refl
text_is_name (Separate Static sets.Delete) = refl
text_is_name (Separate Static sets.Number) = refl
text_is_name (Separate Dynamic sets.Create) = refl
text_is_name (Separate Dynamic sets.Add) = refl
text_is_name (Separate Dynamic sets.Drop) = refl
text_is_name (Separate Dynamic sets.Delete) = refl
text_is_name (Separate Dynamic sets.Number) = refl
text_is_name (Session sessions.Open) = refl
text_is_name (Session sessions.Close) = refl
text_is_name (Session sessions.Activate) = refl
text_is_name (Session sessions.Deactivate) = refl
text_is_name (Ask asks.List) = refl
text_is_name (Ask asks.Json) = refl
text_is_name (Ask asks.Audit) = refl
text_is_name (Ask asks.Check) = refl
text_is_name (Ask asks.Users) = refl
text_is_name (Ask asks.Roles) = refl
text_is_name (Ask asks.Active) = refl
