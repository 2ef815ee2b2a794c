use Rattle.cpu_hotplug.proofs.moves.+move_past.Given as goal

-- proposed from what the function passes where it calls itself
abbrev pub decreases-move_past : goal.decreases-move_past
decreases-move_past g l = l.stay
