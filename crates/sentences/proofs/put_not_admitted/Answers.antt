-- Four pieces, one behind the other: their texts are long. Assumes nothing.
use Rattle.text.proofs.Pages.{put_more, put_room}
use Rattle.sentences.specs.Sentences.{not_admitted}
use Rattle.sentences.proofs.put_not_admitted.Goals as goal

pub bytes-requires : goal.bytes-requires
unfolding not_admitted
bytes-requires c = put_room c.requires (put_more (put_more c.put_then_signed.ensures c.put_then_signed-2.ensures) c.put_then_signed-3.ensures)

pub returns : goal.returns
unfolding not_admitted
returns c = put_more (put_more (put_more c.put_then_signed.ensures c.put_then_signed-2.ensures) c.put_then_signed-3.ensures) c.bytes.ensures
