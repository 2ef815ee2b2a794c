use Rattle.std.proofs.Common.{◌∙◌, ap, Some}
use Rattle.view_words.specs.declared.command.Command.TheVariants.{Summary, Table, Segments, SegmentsJson, Picture, Explain}
use Rattle.view_runner.proofs.Asked.{known_words}
use Rattle.view_runner.proofs.command.run.Goals as goal

pub returns-in-Some-Summary-clause-bad_words : goal.returns-in-Some-Summary-clause-bad_words
returns-in-Some-Summary-clause-bad_words g c =
    known_words c.command_of.result c.args.words.now Summary c.summarized.result c.command_of.ensures.asked (c.in-Some-Summary.is ∙ ap Some c.in-Some-Summary.field-0-is) c.summarized.ensures.good_words

pub returns-in-Some-Table-clause-bad_words : goal.returns-in-Some-Table-clause-bad_words
returns-in-Some-Table-clause-bad_words g c =
    known_words c.command_of.result c.args.words.now Table c.summarized-in-Some-Table.result c.command_of.ensures.asked (c.in-Some-Table.is ∙ ap Some c.in-Some-Table.field-0-is) c.summarized-in-Some-Table.ensures.good_words

pub returns-in-Some-Segments-clause-bad_words : goal.returns-in-Some-Segments-clause-bad_words
returns-in-Some-Segments-clause-bad_words g c =
    known_words c.command_of.result c.args.words.now Segments c.shown.result c.command_of.ensures.asked (c.in-Some-Segments.is ∙ ap Some c.in-Some-Segments.field-0-is) c.shown.ensures.good_words

pub returns-in-Some-SegmentsJson-clause-bad_words : goal.returns-in-Some-SegmentsJson-clause-bad_words
returns-in-Some-SegmentsJson-clause-bad_words g c =
    known_words c.command_of.result c.args.words.now SegmentsJson c.shown-in-Some-SegmentsJson.result c.command_of.ensures.asked (c.in-Some-SegmentsJson.is ∙ ap Some c.in-Some-SegmentsJson.field-0-is) c.shown-in-Some-SegmentsJson.ensures.good_words

pub returns-in-Some-Picture-clause-bad_words : goal.returns-in-Some-Picture-clause-bad_words
returns-in-Some-Picture-clause-bad_words g c =
    known_words c.command_of.result c.args.words.now Picture c.shown-in-Some-Picture.result c.command_of.ensures.asked (c.in-Some-Picture.is ∙ ap Some c.in-Some-Picture.field-0-is) c.shown-in-Some-Picture.ensures.good_words

pub returns-in-Some-Explain-clause-bad_words : goal.returns-in-Some-Explain-clause-bad_words
returns-in-Some-Explain-clause-bad_words g c =
    known_words c.command_of.result c.args.words.now Explain c.explained.result c.command_of.ensures.asked (c.in-Some-Explain.is ∙ ap Some c.in-Some-Explain.field-0-is) c.explained.ensures.good_words
