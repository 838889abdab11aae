use Rattle.std.proofs.Common.{List, ℕ, ap, sym, subst}
use Rattle.lst_disk.specs.Images.{Stored, settled, replayed, IsImage, DiffersWithin}
use Rattle.lst_disk.specs.Memory.{disk_images, disk_pending}
use Rattle.lst_disk.proofs.Noted.{image_all, image_back}
use Rattle.lst_disk.proofs.Pending.{image_differs, differs_is_image}
use Rattle.lst_disk.proofs.laws.images_differ_in_pending_bytes.Goals as goal

pub returns : goal.returns
returns c = λ m image. (
  λ is. image_differs m.synced.items (disk_pending m) image (subst (λ (synced : List ℕ). IsImage synced (disk_pending m) image) m.lasting (image_all m.start.items m.entries.items m.pieces.items image is)),
  λ differs. image_back m.start.items m.entries.items m.pieces.items image (subst (λ (synced : List ℕ). IsImage synced (disk_pending m) image) (sym m.lasting) (differs_is_image m.synced.items (disk_pending m) image differs)),
)
