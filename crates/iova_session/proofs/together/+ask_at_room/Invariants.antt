use Rattle.iova_session.proofs.together.+ask_at_room.Given as goal

abbrev pub decreases-ask_at_room : goal.decreases-ask_at_room
decreases-ask_at_room g l = l.turns
