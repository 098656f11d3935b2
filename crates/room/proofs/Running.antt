-- Two names that open all definitions by which the runs of this crate compute, so that `refl` works a session out.
use Rattle.base.specs.Choice.{within}
use Rattle.block.specs.Words.{word_at, word_put}
use Rattle.block.specs.Sectors.{zero_block, sector_at}
use Rattle.block.specs.Passwords.{password_of, same}
use Rattle.geometry.specs.Geometry.{max_cylinders, max_heads, max_sectors, geometry_fits, capacity_of}
use Rattle.geometry.specs.Translation.{cylinders_for, initialized_of, translation_allowed, product_of}
use Rattle.address.specs.Registers.{lba_selected, lba_of, cylinder_of, head_of}
use Rattle.address.specs.Address.{lba_address, chs_number, chs_address, address_of}
use Rattle.successor.specs.Successor.{lba_successor, chs_successor, successor_of}
use Rattle.lock.specs.Lock.{starting_lock, exhausted_of, cannot_erase, security_fits}
use Rattle.judging.specs.Passwords.{master_picked, picked_of, matches_of}
use Rattle.judging.specs.Judging.{mismatched_of, master_at_maximum, unlock_locked, unlock_of, judge_of}
use Rattle.codes.specs.Commands.{coded_of, decode_of}
use Rattle.codes.specs.MayRun.{may_run_of}
use Rattle.settled.specs.Identity.{printable, identity_fits}
use Rattle.settled.specs.Settled.{settled_fits}
use Rattle.identify.specs.SecurityWord.{security_word}
use Rattle.identify.specs.Words.{text_word, number_word, identify_word}
use Rattle.identify.specs.Identify.{words_of, identify_of}
use Rattle.face.specs.Reads.{status_of, read_register}
use Rattle.face.specs.Writes.{busy_of, store_register, put_register}
use Rattle.resets.specs.Resets.{dropped_of}
use Rattle.resets.specs.Control.{srst_of, nien_of, control_of}
use Rattle.transfers.specs.Sectors.{after_of, not_found_of}
use Rattle.transfers.specs.Words.{read_buffer_word}
use Rattle.reading.specs.Sectors.{read_at, read_sectors_of}
use Rattle.reading.specs.Words.{read_next_of, read_run_of, read_word_of}
use Rattle.commands.specs.Others.{identify_device_of, read_buffer_of, take_password_of}
use Rattle.commands.specs.Gate.{begun_of, abort_at_once, stations_of, command_of}
use Rattle.fastpath.specs.Dev.{dev_set, ignored_of}
use Rattle.password.specs.Passwords.{password_last, password_last_sectors, password_word, password_word_sectors}
use Rattle.disk.specs.Actions.{write_register_of, write_word_of, act_of}
use Rattle.shape.specs.Shape.{run_fits, password_fits, held_fits, parts_fit}
use Rattle.device.specs.Alone.{alone_of}
use Rattle.device.specs.Host.{alone_fits, shaped_of, step_of}
use Rattle.laws.specs.Sessions.{Rules, session_of}
use Rattle.room.specs.Blocks.{completed_of, unlock_accepts, erase_accepts, accepted_of, never_accepted, mismatch_of, counted_of, mismatches_from, never_restarts}

-- all but those that look into blocks and sectors, which may then be any
unfoldable pub running : Rules
unfolding within max_cylinders max_heads max_sectors geometry_fits capacity_of cylinders_for initialized_of translation_allowed product_of lba_selected lba_of cylinder_of head_of lba_address chs_number chs_address address_of lba_successor chs_successor successor_of starting_lock exhausted_of cannot_erase security_fits master_picked picked_of matches_of mismatched_of master_at_maximum unlock_locked unlock_of judge_of coded_of decode_of may_run_of printable identity_fits settled_fits security_word text_word number_word identify_word words_of identify_of status_of read_register busy_of store_register put_register dropped_of srst_of nien_of control_of after_of not_found_of read_buffer_word read_at read_sectors_of read_next_of read_run_of read_word_of identify_device_of read_buffer_of take_password_of begun_of abort_at_once stations_of command_of dev_set ignored_of password_last password_last_sectors password_word password_word_sectors write_register_of write_word_of act_of run_fits password_fits held_fits parts_fit alone_of alone_fits shaped_of step_of session_of completed_of unlock_accepts erase_accepts accepted_of never_accepted mismatch_of counted_of mismatches_from never_restarts
running = step_of

-- those too
unfoldable pub running_on_bytes : Rules
unfolding running word_at word_put zero_block sector_at password_of same
running_on_bytes = running
