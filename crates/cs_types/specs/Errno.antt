-- Errno: the numbers of the errors (include/uapi/asm-generic/errno-base.h).
use Rattle.std.specs.Prelude.{ℕ}
use Rattle.cs_types.specs.declared.reply.Errno.{Errno}
use Rattle.cs_types.specs.declared.reply.Errno.TheVariants.{Eperm, Esrch, Eagain, Enomem, Efault, Ebusy, Enodev, Einval}

abbrev pub errno_number : Errno → ℕ
errno_number Eperm = 1
errno_number Esrch = 3
errno_number Eagain = 11
errno_number Enomem = 12
errno_number Efault = 14
errno_number Ebusy = 16
errno_number Enodev = 19
errno_number Einval = 22
