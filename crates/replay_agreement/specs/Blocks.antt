-- A block's answer as a stored call has it: its length in the place of the records.
use Rattle.format.specs.Trailer.{BlockAnswer}
use Rattle.format.specs.Trailer.BlockAnswer.{absent, found, refused}
use Rattle.format.specs.Walks.{Answer, answer}

abbrev pub stored : BlockAnswer → Answer
stored absent = answer 0 0 0 0
stored (found strip block) = answer 0 strip block 0
stored (refused number needed) = answer number needed 0 0
